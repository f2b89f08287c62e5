use Rattle.std.proofs.Common.{◌+◌, refl, sym, ap, subst, ◌∙◌, arith, drop, length-drop}
use Rattle.std.specs.Str.{IsCharBoundary}
use Rattle.std.proofs.lemmas.List.{length-take-le}
use Rattle.std.proofs.lemmas.Str.{IsCharBoundary-from_rest, IsUtf8-drop}
use Rattle.justfile_model.specs.Lexing.Tok.{tok_of}
use Rattle.justfile_model.specs.Lexing.LexicalFault.{lexical_fault_of}
use Rattle.justfile_model.specs.Lexing.Next.{next}
use Rattle.justfile_model.specs.Lexing.Lexed.{IsFault, StandsAt}
use Rattle.justfile_model.proofs.Lexing.NextLaws.{fault_cut}
use Rattle.justfile_model.specs.Lexing.LexResult.{IsFrom}
use Rattle.justfile_scan.specs.Modes.{mode_of}
use Rattle.justfile_scan.specs.Scanned.{scan_fault, lexical_error_of}
use Rattle.justfile_lex.proofs.LexerLemmas.{next_is}
use Rattle.justfile_lex.proofs.lexer.Lexer.make_error.Goals as goal

pub make_error_token-token-requires-clause-within : goal.make_error_token-token-requires-clause-within
make_error_token-token-requires-clause-within c =
    let l = c.args.self.now in
    let at = c.requires.reading.lexing.placed.cut in
    let cut = fault_cut (mode_of l.mode) (drop l.offset l.src.now) (IsUtf8-drop l.src.now l.offset c.requires.utf8 at) (lexical_error_of c.explain-refusal.result) (ap (next (mode_of l.mode)) (sym c.rest.ensures) ∙ c.explain-refusal.ensures) in
    let from = IsCharBoundary-from_rest _ _ _ at.0 cut.0 in
    let end = subst (IsCharBoundary l.src.now) (omega arith) (IsCharBoundary-from_rest _ _ _ at.0 cut.1) in
    (end.0, from, end)

pub returns : goal.returns
returns c =
    let l = c.args.self.now in
    let earlier = c.requires.reading.earlier in
    let lexing = c.requires.reading.lexing in
    let span = c.make_error_token-token.result in
    let len = length-take-le span.length (drop span.offset span.src.now) (omega (arith, span.in_source.0, length-drop span.offset span.src.now)) ∙ c.make_error_token-token.ensures.length in
    record {
      fault = scan_fault c.explain-refusal.result.fault;
      kind_is = ap lexical_fault_of c.new.ensures.kind ∙ c.in_ok-kind.ensures;
      is_fault = subst (λ t. IsFault l.src.now (scan_fault c.explain-refusal.result.fault) (tok_of t)) (sym c.new.ensures.token) (record {
        earlier = earlier;
        begins = lexing.begins;
        refusal = lexical_error_of c.explain-refusal.result;
        refused = next_is l earlier lexing ∙ (ap (next (mode_of l.mode)) (sym c.rest.ensures) ∙ c.explain-refusal.ensures);
        spans = (refl, c.make_error_token-token.ensures.kind, len, subst (λ n. StandsAt l.src.now (n + c.explain-refusal.result.skip) (tok_of span)) lexing.offset_is c.make_error_token-token.ensures.at);
      });
      from = subst (IsFrom l.path.now l.src.now) (sym c.new.ensures.token) c.make_error_token-token.ensures.source;
    }
