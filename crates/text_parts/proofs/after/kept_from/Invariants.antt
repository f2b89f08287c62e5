use Rattle.std.proofs.Common.{◌-◌, ◌≤◌, ℕ, List, length}
use Rattle.text_parts.specs.Kept.{IsFront}
use Rattle.text_parts.specs.Places.{IsPartStart}
use Rattle.text_parts.specs.Shared.{IsShared}
use Rattle.text_parts.proofs.after.kept_from.Given as goal

abbrev pub invariant-kept : goal.invariant-kept
invariant-kept g l =
    record {
      start : IsPartStart l.text l.front.end;
      count : l.front.count ≤ length l.parts;
      after : l.initial.front.end ≤ l.front.end;
      are : (old : List ℕ) → IsShared old l.text l.shared → IsFront g.C.Cut.is_part old l.text l.parts l.initial.front
          → IsFront g.C.Cut.is_part old l.text l.parts l.front;
    }

abbrev pub decreases-kept : goal.decreases-kept
decreases-kept g l = length l.parts - l.front.count
