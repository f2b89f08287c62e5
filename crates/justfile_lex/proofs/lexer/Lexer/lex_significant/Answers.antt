use Rattle.std.proofs.Common.{◌≡◌, ◌≢◌, sym, ap, subst, ◌∙◌, rules}
use Rattle.std.specs.Str.{IsUtf8}
use Rattle.justfile_vocabulary.specs.declared.token_kind.TokenKind.TheVariants.{Eof}
use Rattle.justfile_model.specs.Lexing.LexResult.{IsLexerFault}
use Rattle.justfile_model.specs.Lexing.Next.{next}
use Rattle.justfile_model.proofs.Lexing.NextLaws.{token_cut}
use Rattle.justfile_scan.specs.Modes.{mode_of}
use Rattle.justfile_lex.proofs.Refusals.{found_is}
use Rattle.justfile_lex.proofs.Runs.{ends, reads_on, shorter, white_after}
use Rattle.justfile_lex.proofs.lexer.Lexer.lex_significant.Goals as goal

pub returns-in-Some-clause-fault : goal.returns-in-Some-clause-fault
returns-in-Some-clause-fault c =
    let runs = c.tokens.invariant.reads.runs in
    subst (λ p. IsLexerFault p c.args.src.now c.interpolation_fault.result) runs.path_is
    (subst (λ s. IsLexerFault c.tokens.lexer.path.now s c.interpolation_fault.result) runs.src_is c.interpolation_fault.ensures)

pub returns-in_default-found-clause-fault : goal.returns-in_default-found-clause-fault
returns-in_default-found-clause-fault c =
    let runs = c.tokens.invariant.reads.runs in
    subst (λ p. IsLexerFault p c.args.src.now c.make_fault.result) runs.path_is
    (subst (λ s. IsLexerFault c.tokens.lexer.path.now s c.make_fault.result) runs.src_is c.make_fault.ensures)

pub take_into-requires-clause-next_token : goal.take_into-requires-clause-next_token
take_into-requires-clause-next_token c = ap (next (mode_of c.tokens.lexer.mode)) (sym c.rest.ensures) ∙ found_is _ _ (c.in-Some-found.ensures ∙ c.scan_token-scanned.ensures.found)

pub take_into-requires-clause-boundary : goal.take_into-requires-clause-boundary
take_into-requires-clause-boundary c =
    let found = ap (next (mode_of c.tokens.lexer.mode)) (sym c.rest.ensures) ∙ found_is _ _ (c.in-Some-found.ensures ∙ c.scan_token-scanned.ensures.found) in
    (token_cut _ _ (subst IsUtf8 c.rest.ensures c.rest.utf8) _ _ found).0

pub tokens-smaller : goal.tokens-smaller
tokens-smaller c =
    let taken = c.in_ok-glued.ensures in
    let ne : c.in-Some-found.kind ≢ Eof = search (rules, c.if-eq.ensures) in
    shorter _ _ _ _ _ _ c.tokens.invariant.reads.runs taken.takes c.utf8.src (λ e. ne (sym taken.kind_is ∙ e))

pub tokens-preserved : goal.tokens-preserved
tokens-preserved c =
    let taken = c.in_ok-glued.ensures in
    let ne : c.in-Some-found.kind ≢ Eof = search (rules, c.if-eq.ensures) in
    record {
      reads = reads_on _ _ _ _ _ taken.takes _ _ _ _ c.tokens.invariant.reads taken.after_is taken.table_is (λ e. ne (sym taken.kind_is ∙ e));
      run = white_after c.tokens.lexer c.take_into.new.self taken.token c.in-Some-found.length c.rest.result.now c.scan_token-scanned.new.run taken.takes taken.length_is c.rest.ensures c.scan_token-scanned.ensures.run;
    }

pub returns-then-eq-clause-table : goal.returns-then-eq-clause-table
returns-then-eq-clause-table c =
    let taken = c.in_ok-glued.ensures in
    let end : c.in-Some-found.kind ≡ Eof = search (rules, c.if-eq.ensures) in
    ends _ _ _ _ _ taken.takes _ _ _ _ c.tokens.invariant.reads taken.after_is taken.table_is (taken.kind_is ∙ end)
