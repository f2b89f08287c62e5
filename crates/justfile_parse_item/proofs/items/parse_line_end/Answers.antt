use Rattle.std.proofs.Common.{map}
use Rattle.std.proofs.lemmas.Result.{err_from_is_err_and}
use Rattle.justfile_parse_item.specs.Tree.{item_tree}
use Rattle.justfile_parse_expression.specs.View.{state_of}
use Rattle.justfile_parse_item.proofs.Lines.{line_end_stops}
use Rattle.justfile_parse_item.proofs.items.parse_line_end.Goals as goal

pub returns-in_err-expect-clause-reads : goal.returns-in_err-expect-clause-reads
returns-in_err-expect-clause-reads g c =
    let A = g.X.Expander.answer in
    let p = err_from_is_err_and c.from_residual.result c.from_residual.ensures.1 in
    rw (p.1, p.2)
    (line_end_stops (map item_tree c.args.items.now.items) (state_of A c.args.parser.now) c.in_err-expect.field-0.0 (state_of A c.expect.new.self)
    c.in_default.ensures.takes c.in_err-expect.ensures.reads)
