use Rattle.std.proofs.Common.{◌≡◌, ◌≢◌, sym, ap, subst, ◌∙◌, rules, List}
use Rattle.std.specs.Str.{IsUtf8}
use Rattle.justfile_vocabulary.specs.declared.token_kind.TokenKind.TheVariants.{Eof}
use Rattle.justfile_model.specs.Lexing.LexResult.{IsLexerFault}
use Rattle.justfile_model.specs.Lexing.Next.{next}
use Rattle.justfile_model.proofs.Lexing.NextLaws.{token_cut}
use Rattle.justfile_scan.specs.Modes.{mode_of}
use Rattle.justfile_token.specs.declared.token.Token.{Token}
use Rattle.justfile_model.specs.Lexing.Lexed.{Lexed}
use Rattle.justfile_model.specs.Lexing.LexResult.{IsFrom}
use Rattle.justfile_model.specs.Lexing.Tok.{tok_of}
use Rattle.std.specs.Prelude.{All, map}
use Rattle.justfile_lex.proofs.Refusals.{found_is}
use Rattle.justfile_lex.proofs.Runs.{Runs, runs_on, shorter, text_lexed, white_after}
use Rattle.justfile_lex.proofs.lexer.Lexer.lex.Goals as goal

pub returns-in-Some-clause-fault : goal.returns-in-Some-clause-fault
returns-in-Some-clause-fault c =
    let runs = c.tokens.invariant.runs in
    subst (λ p. IsLexerFault p c.args.src.now c.interpolation_fault.result) runs.path_is
    (subst (λ s. IsLexerFault c.tokens.lexer.path.now s c.interpolation_fault.result) runs.src_is c.interpolation_fault.ensures)

pub returns-in_default-found-clause-fault : goal.returns-in_default-found-clause-fault
returns-in_default-found-clause-fault c =
    let runs = c.tokens.invariant.runs in
    subst (λ p. IsLexerFault p c.args.src.now c.make_fault.result) runs.path_is
    (subst (λ s. IsLexerFault c.tokens.lexer.path.now s c.make_fault.result) runs.src_is c.make_fault.ensures)

pub take-requires-clause-next_token : goal.take-requires-clause-next_token
take-requires-clause-next_token c = ap (next (mode_of c.tokens.lexer.mode)) (sym c.rest.ensures) ∙ found_is _ _ (c.in-Some-found.ensures ∙ c.scan_token-scanned.ensures.found)

pub take-requires-clause-boundary : goal.take-requires-clause-boundary
take-requires-clause-boundary c =
    let found = ap (next (mode_of c.tokens.lexer.mode)) (sym c.rest.ensures) ∙ found_is _ _ (c.in-Some-found.ensures ∙ c.scan_token-scanned.ensures.found) in
    (token_cut _ _ (subst IsUtf8 c.rest.ensures c.rest.utf8) _ _ found).0

pub tokens-smaller : goal.tokens-smaller
tokens-smaller c =
    let ne : c.in-Some-found.kind ≢ Eof = search (rules, c.if-eq.ensures) in
    shorter _ _ _ _ _ _ c.tokens.invariant.runs c.in_ok-token.ensures.takes c.utf8.src (λ e. ne (sym c.in_ok-token.ensures.kind ∙ e))

pub tokens-preserved : goal.tokens-preserved
tokens-preserved c =
    let taken = c.in_ok-token.ensures.takes in
    let ne : c.in-Some-found.kind ≢ Eof = search (rules, c.if-eq.ensures) in
    let P : List Token → Type 0 = λ ts. Runs c.args.path.now c.args.src.now ts c.take.new.self in
    record {
      runs = subst P (sym c.in_ok-push.ensures.items) (runs_on _ _ _ _ _ _ c.tokens.invariant.runs taken (λ e. ne (sym c.in_ok-token.ensures.kind ∙ e)));
      run = white_after c.tokens.lexer c.take.new.self c.in_ok-token.token c.in-Some-found.length c.rest.result.now c.scan_token-scanned.new.run taken c.in_ok-token.ensures.length c.rest.ensures c.scan_token-scanned.ensures.run;
    }

pub returns-then-eq-clause-tokens : goal.returns-then-eq-clause-tokens
returns-then-eq-clause-tokens c =
    let end : c.in-Some-found.kind ≡ Eof = search (rules, c.if-eq.ensures) in
    let P : List Token → Type 0 = λ ts. Lexed c.args.src.now (map tok_of ts) in
    subst P (sym c.in_ok-push.ensures.items) (text_lexed _ _ _ _ _ _ c.tokens.invariant.runs c.in_ok-token.ensures.takes (c.in_ok-token.ensures.kind ∙ end)).0

pub returns-then-eq-clause-source : goal.returns-then-eq-clause-source
returns-then-eq-clause-source c =
    let end : c.in-Some-found.kind ≡ Eof = search (rules, c.if-eq.ensures) in
    subst (All (IsFrom c.args.path.now c.args.src.now)) (sym c.in_ok-push.ensures.items) (text_lexed _ _ _ _ _ _ c.tokens.invariant.runs c.in_ok-token.ensures.takes (c.in_ok-token.ensures.kind ∙ end)).1
