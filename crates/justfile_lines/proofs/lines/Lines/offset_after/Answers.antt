use Rattle.std.proofs.Common.{◌≡◌, ◌∙◌, sym, arith}
use Rattle.justfile_lines.specs.Positions.{line_at}
use Rattle.justfile_lines.proofs.Columns.{line_at-le}
use Rattle.justfile_lines.proofs.Places.{is_last_after}
use Rattle.justfile_lines.proofs.lines.Lines.offset_after.Goals as goal

pub returns : goal.returns
returns c =
    let text = c.args.self.now.text.now in
    let known = c.args.known in
    let at_line : line_at text known.offset ≡ c.args.position.line = sym c.requires.place.line_is ∙ sym c.if-position-known.false in
    record {
      boundary = c.last_up_to.ensures.boundary;
      in_line = λ _.
          is_last_after c.args.encoding text c.args.self.now.starts.items c.args.position.line c.args.position.column known.offset c.line_end-end.result c.last_up_to.result
          c.args.self.now.are_starts at_line (omega (arith, c.requires.place.column_is, c.if-position-known-2.false)) c.requires.place.within c.line_end-end.ensures.last
          c.line_end-end.ensures.in_line c.last_up_to.ensures.boundary.0 c.last_up_to.ensures.from c.last_up_to.ensures.to
          (omega (arith, c.last_up_to.ensures.column, c.requires.place.column_is))
          (λ other bound le narrow. c.last_up_to.ensures.last other bound le (omega (arith, narrow, c.requires.place.column_is)));
      after = λ gt. absurd (omega (arith, at_line, line_at-le text known.offset));
    }
