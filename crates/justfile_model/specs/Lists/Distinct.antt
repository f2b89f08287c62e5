-- Lists without duplicates.
use Rattle.std.specs.Prelude.{◌≡◌, Bool, false, List, [], ◌∷◌, if◌then◌else◌}
use Rattle.std.specs.List.{list_any}

module _ {X : Type 0} (same : X → X → Bool) where
  -- the list with only the last one of the elements that are the same
  abbrev pub kept_last : List X → List X
  kept_last [] = []
  kept_last (x ∷ xs) = if list_any (same x) xs then kept_last xs else x ∷ kept_last xs

  -- No element is the same as a later one.
  abbrev pub Distinct : List X → Type 0
  Distinct [] = Unit {0}
  Distinct (x ∷ xs) = (list_any (same x) xs ≡ false) × Distinct xs
