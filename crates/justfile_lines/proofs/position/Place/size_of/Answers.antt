use Rattle.std.proofs.Common.{ap, ◌∙◌}
use Rattle.justfile_lines.specs.Positions.{feeds, last_line}
use Rattle.justfile_lines.proofs.Ahead.{counted}
use Rattle.justfile_lines.proofs.position.Place.size_of.Goals as goal

pub returns : goal.returns
returns c =
    let last = c.last_line-line in
    counted c.args.encoding c.args.text.now last.result.1.now last.result.0 c.width.result (last.ensures.number ∙ ap feeds c.as_bytes.ensures.value)
    (last.ensures.line ∙ ap last_line c.as_bytes.ensures.value) c.width.ensures
