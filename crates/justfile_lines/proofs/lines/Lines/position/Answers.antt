use Rattle.std.proofs.Common.{drop, take, ap, sym, ◌∙◌, arith}
use Rattle.justfile_lines.specs.Positions.{width}
use Rattle.justfile_lines.proofs.Columns.{column_drop, line_at-le}
use Rattle.justfile_lines.proofs.Searches.{start_first}
use Rattle.justfile_lines.proofs.Walks.{position_back}
use Rattle.justfile_lines.proofs.lines.Lines.position.Goals as goal

pub start-start-requires : goal.start-start-requires
start-start-requires c = omega (arith, c.line-line.ensures, line_at-le c.args.self.now.text.now c.args.offset)

pub split_at-requires-2 : goal.split_at-requires-2
split_at-requires-2 c =
    omega (arith, start_first c.args.self.now.text.now _ _ c.args.offset c.start-start.ensures (sym c.line-line.ensures), c.split_at.ensures.front_len)

pub returns-clause-column : goal.returns-clause-column
returns-clause-column c =
    let text = c.args.self.now.text.now in
    c.width-column.ensures
    ∙ ap (width c.args.encoding) (c.split_at-2.ensures.back ∙ ap (drop c.start-start.result) (c.split_at.ensures.front ∙ ap (take c.args.offset) c.as_bytes.ensures.value))
    ∙ column_drop c.args.encoding text _ _ c.args.offset c.start-start.ensures
    (start_first text _ _ c.args.offset c.start-start.ensures (sym c.line-line.ensures)) c.requires (sym c.line-line.ensures)

pub returns-clause-back : goal.returns-clause-back
returns-clause-back c =
    let text = c.args.self.now.text.now in
    position_back c.args.encoding text c.args.offset c.line-line.result c.width-column.result c.start-start.result c.start-start.ensures c.line-line.ensures
    (c.width-column.ensures
    ∙ ap (width c.args.encoding) (c.split_at-2.ensures.back ∙ ap (drop c.start-start.result) (c.split_at.ensures.front ∙ ap (take c.args.offset) c.as_bytes.ensures.value))
    ∙ column_drop c.args.encoding text _ _ c.args.offset c.start-start.ensures
    (start_first text _ _ c.args.offset c.start-start.ensures (sym c.line-line.ensures)) c.requires (sym c.line-line.ensures))
