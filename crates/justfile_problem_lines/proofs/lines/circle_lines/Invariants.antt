use Rattle.std.proofs.Common.{◌≡◌, string_bytes, take}
use Rattle.justfile_problem_lines.specs.Lines.{TellCircles}
use Rattle.justfile_problem_lines.proofs.lines.circle_lines.Given as goal

abbrev pub invariant-loop-circle : goal.invariant-loop-circle
invariant-loop-circle l = (l.cursor.source.now ≡ l.source) × TellCircles l.source (take l.circle-index l.circles) (string_bytes l.lines)
