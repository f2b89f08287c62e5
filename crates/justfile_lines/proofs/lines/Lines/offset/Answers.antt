use Rattle.std.proofs.Common.{arith}
use Rattle.justfile_lines.proofs.Searches.{line_from_start}
use Rattle.justfile_lines.proofs.Walks.{found_again, is_last}
use Rattle.justfile_lines.proofs.lines.Lines.offset.Goals as goal

pub line_end-end-requires : goal.line_end-end-requires
line_end-end-requires c = omega (arith, c.args.self.now.are_starts.count, c.if-position-len.false, c.len.ensures)

pub last_up_to-requires-clause-order : goal.last_up_to-requires-clause-order
last_up_to-requires-clause-order c = c.line_end-end.ensures.last _ c.start-start.ensures.boundary.0 c.start-start.ensures.line_is

pub last_up_to-requires-clause-bound : goal.last_up_to-requires-clause-bound
last_up_to-requires-clause-bound c = c.start-start.ensures.boundary

pub returns-clause-is : goal.returns-clause-is
returns-clause-is c = record {
  boundary = c.last_up_to.ensures.boundary;
  in_line = λ _.
      is_last c.args.encoding c.args.self.now.text.now c.args.position.line c.args.position.column c.start-start.result c.line_end-end.result c.last_up_to.result c.start-start.ensures
      c.line_end-end.ensures.last
      (omega (arith, c.line_end-end.ensures.in_line _ c.last_up_to.ensures.to, line_from_start _ _ _ _ c.start-start.ensures c.last_up_to.ensures.from))
      c.last_up_to.ensures.boundary.0 c.last_up_to.ensures.from c.last_up_to.ensures.column c.last_up_to.ensures.last;
  after = λ gt. absurd (omega (arith, c.args.self.now.are_starts.count, c.if-position-len.false, c.len.ensures));
}

pub returns-clause-back : goal.returns-clause-back
returns-clause-back c =
    found_again c.args.encoding c.args.self.now.text.now c.args.position.line c.args.position.column c.last_up_to.result c.start-start.result c.start-start.ensures
    (is_last c.args.encoding c.args.self.now.text.now c.args.position.line c.args.position.column c.start-start.result c.line_end-end.result c.last_up_to.result c.start-start.ensures
    c.line_end-end.ensures.last
    (omega (arith, c.line_end-end.ensures.in_line _ c.last_up_to.ensures.to, line_from_start _ _ _ _ c.start-start.ensures c.last_up_to.ensures.from))
    c.last_up_to.ensures.boundary.0 c.last_up_to.ensures.from c.last_up_to.ensures.column c.last_up_to.ensures.last)
    c.last_up_to.ensures.boundary.0
