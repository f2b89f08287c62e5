use Rattle.std.proofs.Common.{◌≤◌, length}
use Rattle.justfile_recovery.proofs.lines.after_lines.Given as goal

abbrev pub invariant-loop-line : goal.invariant-loop-line
invariant-loop-line l = (l.from ≤ l.at) × (l.at ≤ length l.bytes)
