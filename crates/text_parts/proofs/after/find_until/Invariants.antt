use Rattle.std.proofs.Common.{◌≤◌, ◌++◌, ℕ, ◌-◌, List, length, drop}
use Rattle.text_parts.specs.declared.part.Part.{Part}
use Rattle.text_parts.specs.Kept.{AreLeft, IsBegun}
use Rattle.text_parts.specs.Places.{IsPartStart}
use Rattle.text_parts.proofs.after.find_until.Given as goal

abbrev pub invariant-parts : goal.invariant-parts
invariant-parts g l =
    record {
      start : IsPartStart l.text l.place.at;
      some : l.initial.place.at ≤ l.place.at;
      after : l.initial.place.index ≤ l.place.index;
      within : l.place.index ≤ length l.parts;
      begun : (kept : List (Part g.row.C-Known.Denot)) → IsBegun g.C.Cut.is_part l.text (kept ++ l.initial.found.items) l.initial.place.at
          → IsBegun g.C.Cut.is_part l.text (kept ++ l.found.items) l.place.at;
      left : (old : List ℕ) → AreLeft g.C.Cut.is_part old l.initial.place.from (drop l.initial.place.index l.parts)
          → AreLeft g.C.Cut.is_part old l.place.from (drop l.place.index l.parts);
    }

abbrev pub decreases-parts : goal.decreases-parts
decreases-parts g l = length l.text - l.place.at
