use Rattle.std.proofs.Common.{arith}
use Rattle.std.proofs.lemmas.List.{nil_from_length}
use Rattle.std.proofs.lemmas.Bool.Decides.{nat_tests}
use Rattle.std.proofs.lemmas.Result.{err_from_is_err_and}
use Rattle.justfile_parse_expression.specs.View.{state_of}
use Rattle.justfile_parse_item_parts.proofs.Bodies.{body_none, body_stops}
use Rattle.justfile_parse_item_parts.proofs.body.parse_body.Goals as goal

pub returns-then-is_empty : goal.returns-then-is_empty
returns-then-is_empty g c =
    body_none _ _ _ _ c.in_ok-lines.ensures c.trim_lines.ensures
    (nil_from_length c.trim_lines.new.lines.items (grind (arith, nat_tests, c.if-is_empty.ensures, c.trim_lines.new.lines.ok)))

pub returns-in_err-lines : goal.returns-in_err-lines
returns-in_err-lines g c =
    let A = g.X.Expander.answer in
    let p = err_from_is_err_and c.from_residual.result c.from_residual.ensures.1 in
    rw (p.1, p.2) (body_stops (state_of A c.args.parser.now) c.in_err-lines.field-0.0 (state_of A c.parse_lines.new.parser) c.in_err-lines.ensures)
