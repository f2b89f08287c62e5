-- The list with only the last one of the elements that are the same.
use Rattle.std.proofs.Common.{◌≡◌, ◌∙◌, ◌||◌, List, [], ◌∷◌, Bool, true, false, cond, refl, sym, ap, true≢false, arith}
use Rattle.std.specs.List.{AllByRecursion, list_any}
use Rattle.std.specs.Ordering.{is_gt}
use Rattle.std.specs.declared.cmp.Ordering.{Ordering}
use Rattle.std.proofs.lemmas.Bool.{or_parts}
use Rattle.std.proofs.lemmas.Bool.Decides.{nat_tests}
use Rattle.std.proofs.lemmas.List.Sorted.{list_any-IsPermutation}
use Rattle.justfile_model.specs.Lists.Distinct.{Distinct, kept_last}
use Rattle.justfile_model.specs.Lists.Order.{in_order, placed}
use Rattle.justfile_model.proofs.Lists.OrderLaws.{any_in_order, placed_permutation}

if_either : (a b : Bool) → (a ≡ true → b ≡ true) → b ≡ (a || b)
if_either true b h = h refl
if_either false b h = refl

module _ {X : Type 0} (same : X → X → Bool) where
  -- ---- which elements are kept

  each_is_kept : (P : X → Type 0) (xs : List X) → AllByRecursion P xs → AllByRecursion P (kept_last same xs)
  each_is_kept P [] h = tt
  each_is_kept P (x ∷ xs) h = within (list_any (same x) xs) (each_is_kept P xs h.1)
    where
      within : (b : Bool) → AllByRecursion P (kept_last same xs) → AllByRecursion P (cond b (kept_last same xs) (x ∷ kept_last same xs))
      within true k = k
      within false k = (h.0, k)

  -- of two elements that are the same a test is passed by both, or by neither
  abbrev pub RespectsSame : (X → Bool) → Type 0
  RespectsSame p = (x y : X) → same x y ≡ true → p x ≡ p y

  here_or_later : (p : X → Bool) (x y : X) (ys : List X) → RespectsSame p → p x ≡ true → (list_any (same x) ys ≡ true → list_any p ys ≡ true)
      → list_any (same x) (y ∷ ys) ≡ true → list_any p (y ∷ ys) ≡ true
  here_or_later p x y ys alike k later h = go (same x y) refl h
    where
      go : (b : Bool) → same x y ≡ b → (b || list_any (same x) ys) ≡ true → (p y || list_any p ys) ≡ true
      go true e h = ap (λ b. b || list_any p ys) (sym (alike x y e) ∙ k)
      go false e h = let others = later h in grind (arith, nat_tests)

  passed_later : (p : X → Bool) (x : X) (ys : List X) → RespectsSame p → list_any (same x) ys ≡ true → p x ≡ true → list_any p ys ≡ true
  passed_later p x [] alike h k = absurd (true≢false (sym h))
  passed_later p x (y ∷ ys) alike h k = here_or_later p x y ys alike k (λ e. passed_later p x ys alike e k) h

  pub any_kept : (p : X → Bool) → RespectsSame p → (xs : List X) → list_any p (kept_last same xs) ≡ list_any p xs
  any_kept p alike [] = refl
  any_kept p alike (x ∷ xs) = within (list_any (same x) xs) (passed_later p x xs alike) (any_kept p alike xs)
    where
      within : (b : Bool) → (b ≡ true → p x ≡ true → list_any p xs ≡ true) → list_any p (kept_last same xs) ≡ list_any p xs
          → list_any p (cond b (kept_last same xs) (x ∷ kept_last same xs)) ≡ (p x || list_any p xs)
      within true e k = k ∙ if_either (p x) (list_any p xs) (e refl)
      within false e k = ap (λ b. p x || b) k

  -- ---- in order

  module _ (R : X → X → Ordering) (symmetric : (x y : X) → same x y ≡ same y x) where
    none_placed : (p : X → Bool) (x : X) (ys : List X) → p x ≡ false → list_any p ys ≡ false → list_any p (placed R x ys) ≡ false
    none_placed p x ys e h = sym (list_any-IsPermutation p (x ∷ ys) (placed R x ys) (placed_permutation R x ys)) ∙ (λ i. e i || h i)

    distinct_placed : (x : X) (ys : List X) → list_any (same x) ys ≡ false → Distinct same ys → Distinct same (placed R x ys)
    distinct_placed x [] h k = (refl, tt)
    distinct_placed x (y ∷ ys) h k =
        let n = or_parts (same x y) (list_any (same x) ys) h in
        within (is_gt (R x y)) (none_placed (same y) x ys (symmetric y x ∙ n.0) k.0) (distinct_placed x ys n.1 k.1)
      where
        within : (b : Bool) → list_any (same y) (placed R x ys) ≡ false → Distinct same (placed R x ys)
            → Distinct same (cond b (y ∷ placed R x ys) (x ∷ y ∷ ys))
        within true e g = (e, g)
        within false e g = (h, k)

    pub distinct_in_order : (xs : List X) → Distinct same xs → Distinct same (in_order R xs)
    distinct_in_order [] h = tt
    distinct_in_order (x ∷ xs) h = distinct_placed x (in_order R xs) (any_in_order R (same x) xs ∙ h.0) (distinct_in_order xs h.1)
