use Rattle.justfile_parse_item_parts.proofs.Trims.{IsTrimmedTo}
use Rattle.justfile_parse_item_parts.proofs.body.trim_lines.Given as goal

abbrev pub invariant-loop-lines : goal.invariant-loop-lines
invariant-loop-lines l = IsTrimmedTo l.fn.lines.items l.lines.items

abbrev pub decreases-loop-lines : goal.decreases-loop-lines
decreases-loop-lines l = goal.left-loop-lines l
