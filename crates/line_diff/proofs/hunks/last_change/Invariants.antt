use Rattle.std.proofs.Common.{◌-◌, ◌<◌, ◌≤◌, length}
use Rattle.line_diff.proofs.hunks.last_change.Given as goal

abbrev pub invariant-changes : goal.invariant-changes
invariant-changes l = record { after : l.first ≤ l.last; within : l.last < length l.edits }

abbrev pub decreases-changes : goal.decreases-changes
decreases-changes l = length l.edits - l.last
