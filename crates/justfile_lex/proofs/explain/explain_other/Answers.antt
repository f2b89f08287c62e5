use Rattle.std.proofs.Common.{◌≡◌, get_or, arith, sym, ◌∙◌}
use Rattle.justfile_model.proofs.Lexing.CutLemmas.{after_byte}
use Rattle.justfile_lex.proofs.explain.explain_other.Goals as goal

pub explain_escape-requires-clause-boundary : goal.explain_escape-requires-clause-boundary
explain_escape-requires-clause-boundary c =
    let first : get_or c.args.rest.now 0 0 ≡ 92 = sym c.requires.byte ∙ c.if-byte-eq92.true in
    after_byte c.args.rest.now 0 1 c.utf8.rest c.requires.some (omega (arith, first)) (omega arith)
