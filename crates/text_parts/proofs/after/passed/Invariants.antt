use Rattle.std.proofs.Common.{◌≤◌, ◌≡◌, ℕ, ◌-◌, List, length, drop}
use Rattle.text_parts.specs.Kept.{AreLeft}
use Rattle.text_parts.proofs.after.passed.Given as goal

abbrev pub invariant-old : goal.invariant-old
invariant-old g l =
    record {
      at : l.place.at ≡ l.initial.place.at;
      after : l.initial.place.index ≤ l.place.index;
      within : l.place.index ≤ length l.parts;
      left : (old : List ℕ) → AreLeft g.C.Cut.is_part old l.initial.place.from (drop l.initial.place.index l.parts)
          → AreLeft g.C.Cut.is_part old l.place.from (drop l.place.index l.parts);
    }

abbrev pub decreases-old : goal.decreases-old
decreases-old g l = length l.parts - l.place.index
