use Rattle.std.proofs.Common.{◌≤◌, ℕ, ◌-◌, List, length}
use Rattle.text_parts.specs.Kept.{IsFront}
use Rattle.text_parts.specs.Places.{IsPartStart}
use Rattle.text_parts.specs.Shared.{IsShared}
use Rattle.text_parts.proofs.after.parts_after.Given as goal

abbrev pub invariant-stretches : goal.invariant-stretches
invariant-stretches g l =
    record {
      start : IsPartStart l.text l.front.end;
      count : l.front.count ≤ length l.parts.items;
      are : (old : List ℕ) → IsShared old l.text l.shared → IsFront g.C.Cut.is_part old l.text l.initial.parts.items l.initial.front
          → IsFront g.C.Cut.is_part old l.text l.parts.items l.front;
    }

abbrev pub decreases-stretches : goal.decreases-stretches
decreases-stretches g l = length l.text - l.front.end
