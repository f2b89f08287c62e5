use Rattle.std.proofs.Common.{◌≡◌, get_or, ◌∙◌, sym, arith}
use Rattle.justfile_lines.specs.Positions.{line_at}
use Rattle.justfile_lines.proofs.Columns.{line_at-le}
use Rattle.justfile_lines.proofs.Walks.{position_back}
use Rattle.justfile_lines.proofs.lines.Lines.place.Goals as goal

pub returns-then-line-known-clause-back : goal.returns-then-line-known-clause-back
returns-then-line-known-clause-back c =
    λ bound.
    let text = c.args.self.now.text.now in
    let are = c.args.self.now.are_starts in
    let in_line : c.args.known.position.line ≡ line_at text c.args.offset = sym c.if-line-known.true ∙ c.line.ensures in
    position_back c.args.encoding text c.args.offset c.args.known.position.line c.column_after-column.result (get_or c.args.self.now.starts.items c.args.known.position.line 0)
    (are.each c.args.known.position.line (omega (arith, are.count, in_line, line_at-le text c.args.offset))) in_line c.column_after-column.ensures bound
