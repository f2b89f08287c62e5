use Rattle.std.proofs.Common.{◌≡◌, ◌⊎◌, ◌+◌, ◌≤◌, true}
use Rattle.justfile_recovery.specs.Starts.{HasNone, is_start}
use Rattle.justfile_recovery.proofs.starts.last_start.Given as goal

abbrev pub invariant-loop-at : goal.invariant-loop-at
invariant-loop-at l =
    (l.from ≤ l.last) × (l.last ≤ l.at) × ((l.last ≡ l.from) ⊎ (is_start l.bytes l.last ≡ true)) × HasNone l.bytes (l.last + 1) (l.at + 1)
