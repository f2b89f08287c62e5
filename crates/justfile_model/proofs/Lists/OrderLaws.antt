-- A list has exactly one stable sort, and `in_order` computes it.
use Rattle.std.proofs.Common.{◌≡◌, ◌∙◌, ℕ, zero, suc, ◌<◌, ◌≤◌, List, [], ◌∷◌, Bool, true, false, cond, not, ◌&&◌, length, get_or, refl, sym, ap, subst, arith, add-one, true≢false}
use Rattle.std.specs.Borrow.{Bor}
use Rattle.std.specs.Fn.{Called, Mut}
use Rattle.std.specs.Ordering.{is_lt, is_gt, ordering_reverse}
use Rattle.std.specs.List.{All, AllByRecursion, filter, list_any}
use Rattle.std.specs.List.Sorted.{IsSorted, IsSortedByClosure, IsStable, IsStableByClosure, IsPermutation, ties}
use Rattle.std.specs.Cmp.{IsTotalOrder, IsStrictWeakOrder}
use Rattle.std.specs.declared.cmp.Ordering.{Ordering}
use Rattle.std.specs.declared.cmp.Ordering.TheVariants.{Less, Equal, Greater}
use Rattle.std.proofs.lemmas.Bool.Decides.{nat_tests}
use Rattle.std.proofs.lemmas.Cmp.{upto, tied_itself}
use Rattle.std.proofs.lemmas.Fn.{always_returns_same}
use Rattle.std.proofs.lemmas.List.Sorted.{All-permutation, IsPermutation-cons, IsPermutation-middle, IsPermutation-refl, IsPermutation-sym, IsPermutation-trans, list_any-IsPermutation, ranks_by, sorted_far}
use Rattle.justfile_model.specs.Lists.Order.{IsStableSort, placed, in_order}

module _ {X : Type 0} (p : X → Bool) where
  -- what a test lets through first
  kept_if : (P : X → Type 0) (b : Bool) (x w : X) (l ws : List X) → P x → (l ≡ w ∷ ws → P w) → cond b (x ∷ l) l ≡ w ∷ ws → P w
  kept_if P true x w l ws h k e = let same : x ≡ w = cc in subst P same h
  kept_if P false x w l ws h k e = k e

  kept_first : (P : X → Type 0) (xs : List X) (w : X) (ws : List X) → AllByRecursion P xs → filter p xs ≡ w ∷ ws → P w
  kept_first P [] w ws h e = cc
  kept_first P (x ∷ xs) w ws h e = kept_if P (p x) x w (filter p xs) ws h.0 (kept_first P xs w ws h.1) e

  cancel : (b : Bool) (x : X) (l m : List X) → cond b (x ∷ l) l ≡ cond b (x ∷ m) m → l ≡ m
  cancel true x l m e = cc
  cancel false x l m e = e

module _ {X : Type 0} (R : X → X → Ordering) where
  -- nothing in the list is below x
  abbrev pub NoneBelow : X → List X → Type 0
  NoneBelow x ys = AllByRecursion (λ y. is_lt (R y x) ≡ false) ys

  abbrev pub Ascends : List X → Type 0
  Ascends [] = Unit {0}
  Ascends (x ∷ xs) = NoneBelow x xs × Ascends xs

  -- ---- the same elements, in any order

  pub placed_permutation : (x : X) (ys : List X) → IsPermutation (x ∷ ys) (placed R x ys)
  placed_permutation x [] = IsPermutation-refl (x ∷ [])
  placed_permutation x (y ∷ ys) = within (placed_permutation x ys) (is_gt (R x y))
    where
      within : IsPermutation (x ∷ ys) (placed R x ys) → (b : Bool) → IsPermutation (x ∷ y ∷ ys) (cond b (y ∷ placed R x ys) (x ∷ y ∷ ys))
      within g true = IsPermutation-trans _ _ _ (IsPermutation-sym _ _ (IsPermutation-middle (y ∷ []) x ys)) (IsPermutation-cons y _ _ g)
      within g false = IsPermutation-refl (x ∷ y ∷ ys)

  pub in_order_permutation : (xs : List X) → IsPermutation xs (in_order R xs)
  in_order_permutation [] = IsPermutation-refl []
  in_order_permutation (x ∷ xs) = IsPermutation-trans _ _ _ (IsPermutation-cons x _ _ (in_order_permutation xs)) (placed_permutation x (in_order R xs))

  pub all_in_order : (P : X → Type 0) (xs : List X) → All P xs → All P (in_order R xs)
  all_in_order P xs h = All-permutation P xs (in_order R xs) (in_order_permutation xs) h

  pub any_in_order : (p : X → Bool) (xs : List X) → list_any p (in_order R xs) ≡ list_any p xs
  any_in_order p xs = sym (list_any-IsPermutation p xs (in_order R xs) (in_order_permutation xs))

module _ {X : Type 0} {R : X → X → Ordering} (o : IsTotalOrder R) where
  abbrev lt : X → X → Bool
  lt x y = is_lt (R x y)

  -- the elements that tie with x
  abbrev class : X → List X → List X
  class x ys = filter (ties lt x) ys

  weak : IsStrictWeakOrder lt
  weak = ranks_by o (λ x. x)

  -- ---- the same as std's word

  under_of : (x : X) (xs : List X) → ((k : ℕ) → k < length xs → lt (get_or xs k x) x ≡ false) → NoneBelow R x xs
  under_of x [] h = tt
  under_of x (y ∷ ys) h = (h 0 (omega arith), under_of x ys (λ k p. h (suc k) (omega arith)))

  ascends_of : (xs : List X) → ((i j : ℕ) (d : X) → i ≤ j → j < length xs → lt (get_or xs j d) (get_or xs i d) ≡ false) → Ascends R xs
  ascends_of [] h = tt
  ascends_of (x ∷ xs) h =
      (under_of x xs (λ k p. h 0 (suc k) x (omega arith) (omega arith)), ascends_of xs (λ i j d p q. h (suc i) (suc j) d (omega arith) (omega arith)))

  pub ascends_from_sorted : (xs : List X) → IsSorted R xs → Ascends R xs
  ascends_from_sorted xs h = ascends_of xs (sorted_far lt weak xs h)

  adjacent : (xs : List X) → Ascends R xs → (k : ℕ) (d : X) → suc k < length xs → lt (get_or xs (suc k) d) (get_or xs k d) ≡ false
  adjacent (x ∷ y ∷ ys) h zero d l = h.0.0
  adjacent (x ∷ y ∷ ys) h (suc k) d l = adjacent (y ∷ ys) h.1 k d (omega arith)
  adjacent _ h k d l = absurd (omega arith)

  pub sorted_from_ascends : (xs : List X) → Ascends R xs → IsSorted R xs
  sorted_from_ascends xs h k d z l = ap (λ n. lt (get_or xs n d) (get_or xs k d)) (add-one k) ∙ adjacent xs h k d (omega arith)

  -- ---- at most one

  not_below : (x y : X) → lt x y ≡ false → lt y x ≡ false → ties lt x y ≡ true
  not_below x y h k = λ i. not (h i) && not (k i)

  itself : (x : X) → lt x x ≡ false
  itself x = ap is_lt (tied_itself o x)

  class_first : (x : X) (xs : List X) → class x (x ∷ xs) ≡ x ∷ class x xs
  class_first x xs = ap (λ b. cond b (x ∷ class x xs) (class x xs)) (not_below x x (itself x) (itself x))

  -- the first element of a class isn't below the first of the list
  lowest : (y z : X) (ys zs : List X) → Ascends R (z ∷ zs) → y ∷ ys ≡ class y (z ∷ zs) → lt y z ≡ false
  lowest y z ys zs h e = kept_first (ties lt y) (λ w. lt w z ≡ false) (z ∷ zs) y ys (itself z, h.0) (sym e)

  same_classes : (ys zs : List X) → Ascends R ys → Ascends R zs → ((x : X) → class x ys ≡ class x zs) → ys ≡ zs
  same_classes [] [] h k e = refl
  same_classes [] (z ∷ zs) h k e = cc (e z, class_first z zs)
  same_classes (y ∷ ys) [] h k e = cc (e y, class_first y ys)
  same_classes (y ∷ ys) (z ∷ zs) h k e =
      let a : lt y z ≡ false = lowest y z (class y ys) zs k (sym (class_first y ys) ∙ e y) in
      let b : lt z y ≡ false = lowest z y (class z zs) ys h (sym (class_first z zs) ∙ sym (e z)) in
      let there : class y (z ∷ zs) ≡ z ∷ class y zs = ap (λ b. cond b (z ∷ class y zs) (class y zs)) (not_below y z a b) in
      let same : y ≡ z = cc (class_first y ys, e y, there) in
      let rest : ys ≡ zs = same_classes ys zs h.1 k.1 (λ x.
      cancel (ties lt x) (ties lt x z) z (class x ys) (class x zs) (ap (λ w. class x (w ∷ ys)) (sym same) ∙ e x)) in
      λ i. same i ∷ rest i

  -- ---- and `in_order` is one

  turned : (r s : Ordering) → r ≡ ordering_reverse s → is_gt r ≡ is_lt s
  turned r Less e = ap is_gt e
  turned r Equal e = ap is_gt e
  turned r Greater e = ap is_gt e

  above : (x y : X) → is_gt (R x y) ≡ lt y x
  above x y = turned (R x y) (R y x) (o.antisymm x y)

  under_through : (x y : X) (zs : List X) → lt y x ≡ false → NoneBelow R y zs → NoneBelow R x zs
  under_through x y [] h k = tt
  under_through x y (z ∷ zs) h k = (sym (above x z) ∙ upto o x y z (above x y ∙ h) (above y z ∙ k.0), under_through x y zs h k.1)

  one_way : (x y : X) → lt x y ≡ true → lt y x ≡ false
  one_way x y h = weak.one_way x y h

  under_placed : (x y : X) (zs : List X) → lt y x ≡ false → NoneBelow R x zs → NoneBelow R x (placed R y zs)
  under_placed x y [] h k = (h, tt)
  under_placed x y (z ∷ zs) h k = within (under_placed x y zs h k.1) (is_gt (R y z))
    where
      within : NoneBelow R x (placed R y zs) → (b : Bool) → NoneBelow R x (cond b (z ∷ placed R y zs) (y ∷ z ∷ zs))
      within g true = (k.0, g)
      within g false = (h, k)

  placed_ascends : (x : X) (ys : List X) → Ascends R ys → Ascends R (placed R x ys)
  placed_ascends x [] h = (tt, tt)
  placed_ascends x (y ∷ ys) h = within (placed_ascends x ys h.1) (is_gt (R x y)) refl
    where
      within : Ascends R (placed R x ys) → (b : Bool) → is_gt (R x y) ≡ b → Ascends R (cond b (y ∷ placed R x ys) (x ∷ y ∷ ys))
      within g true e = (under_placed y x ys (one_way y x (sym (above x y) ∙ e)) h.0, g)
      within g false e = let f : lt y x ≡ false = sym (above x y) ∙ e in ((f, under_through x y ys f h.0), h)

  pub in_order_ascends : (xs : List X) → Ascends R (in_order R xs)
  in_order_ascends [] = tt
  in_order_ascends (x ∷ xs) = placed_ascends x (in_order R xs) (in_order_ascends xs)

  both : (a b : Bool) → not a && not b ≡ true → (a ≡ false) × (b ≡ false)
  both a b e = (grind (arith, nat_tests), grind (arith, nat_tests))

  -- two of one class aren't one below the other
  of_one_class : (x y z : X) → ties lt x y ≡ true → ties lt x z ≡ true → lt z y ≡ false
  of_one_class x y z e f =
      let a = both (lt x y) (lt y x) e in
      let b = both (lt x z) (lt z x) f in
      weak.chain z x y b.1 a.0

  swapped : (s t : Bool) (y z : X) (l : List X) → (s ≡ true → t ≡ true → false ≡ true)
      → cond t (z ∷ cond s (y ∷ l) l) (cond s (y ∷ l) l) ≡ cond s (y ∷ cond t (z ∷ l) l) (cond t (z ∷ l) l)
  swapped true true y z l h = absurd (true≢false (sym (h refl refl)))
  swapped true false y z l h = refl
  swapped false t y z l h = refl

  placed_stable : (x y : X) (zs : List X) → class x (placed R y zs) ≡ class x (y ∷ zs)
  placed_stable x y [] = refl
  placed_stable x y (z ∷ zs) = within (placed_stable x y zs) (is_gt (R y z)) refl
    where
      within : class x (placed R y zs) ≡ class x (y ∷ zs) → (b : Bool) → is_gt (R y z) ≡ b
          → class x (cond b (z ∷ placed R y zs) (y ∷ z ∷ zs)) ≡ class x (y ∷ z ∷ zs)
      within g true e =
          ap (λ l. cond (ties lt x z) (z ∷ l) l) g
          ∙ swapped (ties lt x y) (ties lt x z) y z (class x zs) (λ p q. sym (of_one_class x y z p q) ∙ sym (above y z) ∙ e)
      within g false e = refl

  pub in_order_stable : (xs : List X) → IsStable R xs (in_order R xs)
  in_order_stable [] x = refl
  in_order_stable (y ∷ ys) x = placed_stable x y (in_order R ys) ∙ ap (λ l. cond (ties lt x y) (y ∷ l) l) (in_order_stable ys x)

  -- ---- the laws

  pub in_order_sorts : (xs : List X) → IsStableSort R xs (in_order R xs)
  in_order_sorts xs =
      record { permutation = in_order_permutation R xs; sorted = sorted_from_ascends (in_order R xs) (in_order_ascends xs); stable = in_order_stable xs }

  -- sorted and stable is enough
  pub sorted_is : (xs ys : List X) → IsSorted R ys → IsStable R xs ys → ys ≡ in_order R xs
  sorted_is xs ys h k = same_classes ys (in_order R xs) (ascends_from_sorted ys h) (in_order_ascends xs) (λ x. k x ∙ sym (in_order_stable xs x))

  pub sort_is : (xs ys : List X) → IsStableSort R xs ys → ys ≡ in_order R xs
  sort_is xs ys h = sorted_is xs ys h.sorted h.stable

  pub sorted_stays : (xs : List X) → IsSorted R xs → in_order R xs ≡ xs
  sorted_stays xs h = sym (sorted_is xs xs h (λ x. refl))

  pub twice_is_once : (xs : List X) → in_order R (in_order R xs) ≡ in_order R xs
  twice_is_once xs = sorted_stays (in_order R xs) (in_order_sorts xs).sorted

  pub sorted_from_order : (xs ys : List X) → ys ≡ in_order R xs → IsSorted R ys
  sorted_from_order xs ys e = subst (IsSorted R) (sym e) (in_order_sorts xs).sorted

  -- what `Vec::sort_by` leaves, where the closure compares by R
  pub sort_by_is : {F : Type 0} {g : Mut F (Bor X × (Bor X × Unit {0})) Ordering} {f : F} (xs ys : List X)
      → IsSortedByClosure g f ys → IsStableByClosure g f xs ys
      → ((a : Bor X × (Bor X × Unit {0})) (r : Ordering) (f' : F) → Called g f a r f' → (r ≡ R a.0.now a.1.0.now) × (f' ≡ f)) → ys ≡ in_order R xs
  sort_by_is {g = g} {f = f} xs ys sorted stable h =
      let answers = always_returns_same g (λ a r. is_lt r ≡ is_lt (R a.0.now a.1.0.now)) f (λ a r f' k. (ap is_lt (h a r f' k).0, (h a r f' k).1)) in
      sorted_is xs ys (sorted lt weak answers) (stable lt weak answers)
