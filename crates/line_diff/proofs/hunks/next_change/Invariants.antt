use Rattle.std.proofs.Common.{◌-◌, ◌≤◌, All, length, take, drop}
use Rattle.line_diff.specs.Edits.{IsKept}
use Rattle.line_diff.proofs.hunks.next_change.Given as goal

abbrev pub invariant-changes : goal.invariant-changes
invariant-changes l = record { after : l.from ≤ l.index; kept : All IsKept (take (l.index - l.from) (drop l.from l.edits)) }

abbrev pub decreases-changes : goal.decreases-changes
decreases-changes l = length l.edits - l.index
