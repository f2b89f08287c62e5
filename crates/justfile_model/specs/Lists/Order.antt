-- Stable sorting by a comparison.
use Rattle.std.specs.Prelude.{List, [], ◌∷◌, if◌then◌else◌}
use Rattle.std.specs.Ordering.{is_gt}
use Rattle.std.specs.List.Sorted.{IsSorted, IsStable, IsPermutation}
use Rattle.std.specs.declared.cmp.Ordering.{Ordering}

module _ {X : Type 0} (R : X → X → Ordering) where
  -- ys has the elements of xs in ascending order; elements that tie are in the same order as in xs
  pub record IsStableSort (xs ys : List X) : Type 0 where
    pub permutation : IsPermutation xs ys
    pub sorted : IsSorted R ys
    pub stable : IsStable R xs ys

  -- x, inserted before the first element that isn't less
  abbrev pub placed : X → List X → List X
  placed x [] = x ∷ []
  placed x (y ∷ ys) = if is_gt (R x y) then y ∷ placed x ys else x ∷ y ∷ ys

  -- the stable sort of a list
  abbrev pub in_order : List X → List X
  in_order [] = []
  in_order (x ∷ xs) = placed x (in_order xs)
