-- A comparison by kind first: which element a test finds first in sorted order, by its kind.
use Rattle.std.proofs.Common.{◌≡◌, List, [], ◌∷◌, Bool, true, false, cond, ◌||◌, Some, is_some, refl}
use Rattle.std.specs.List.{find, list_any}

module _ {X : Type 0} (test : X → Bool) where
  pub any_is_found : (xs : List X) → list_any test xs ≡ is_some (find test xs)
  any_is_found [] = refl
  any_is_found (x ∷ xs) = within (test x) (any_is_found xs)
    where
      within : (b : Bool) → list_any test xs ≡ is_some (find test xs) → (b || list_any test xs) ≡ is_some (cond b (Some x) (find test xs))
      within true h = refl
      within false h = h
