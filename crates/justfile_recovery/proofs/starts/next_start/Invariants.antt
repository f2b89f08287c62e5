use Rattle.std.proofs.Common.{◌≤◌}
use Rattle.justfile_recovery.specs.Starts.{HasNone}
use Rattle.justfile_recovery.proofs.starts.next_start.Given as goal

abbrev pub invariant-loop-at : goal.invariant-loop-at
invariant-loop-at l = (l.from ≤ l.at) × HasNone l.bytes l.from l.at
