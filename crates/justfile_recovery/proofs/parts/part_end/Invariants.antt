use Rattle.std.proofs.Common.{◌≡◌, ◌⊎◌, ◌-◌, ◌<◌, ◌≤◌, length, true}
use Rattle.justfile_recovery.specs.Starts.{is_start}
use Rattle.justfile_recovery.proofs.parts.part_end.Given as goal

abbrev pub invariant-loop-end : goal.invariant-loop-end
invariant-loop-end l =
    (l.from < l.end) × (l.line < l.end) × (l.end ≤ length l.bytes) × ((l.end ≡ length l.bytes) ⊎ (is_start l.bytes l.end ≡ true))

abbrev pub decreases-loop-end : goal.decreases-loop-end
decreases-loop-end l = length l.bytes - l.end
