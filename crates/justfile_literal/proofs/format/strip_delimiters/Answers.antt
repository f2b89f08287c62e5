use Rattle.std.proofs.Common.{IsTrue, ℕ, subst, sym}
use Rattle.justfile_model.specs.LiteralTexts.Literals.{end_len}
use Rattle.justfile_literal.specs.Literal.{is_framed}
use Rattle.justfile_literal.proofs.LiteralTexts.{begins}
use Rattle.justfile_literal.proofs.format.strip_delimiters.Goals as goal

pub range-requires-clause-start_boundary : goal.range-requires-clause-start_boundary
range-requires-clause-start_boundary c some =
    let lexeme = c.args.lexeme.now in
    let by_front = subst (λ (n : ℕ). IsTrue (is_framed n (end_len c.args.kind c.args.part) lexeme)) (sym c.front_len-front.ensures) c.requires in
    begins c.front_len-front.result (end_len c.args.kind c.args.part) lexeme c.utf8.lexeme some by_front
