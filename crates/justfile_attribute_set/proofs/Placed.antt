-- The place of an item is its index in the sorted list.
use Rattle.std.proofs.Common.{◌≡◌, ◌∙◌, ◌⊎◌, inl, inr, ℕ, ◌<◌, ◌+◌, List, [], ◌∷◌, Result, Ok, Err, IfOk, length, get_or, set, swap, map, refl, sym, ap, subst, arith, get_or-set_same, get_or-set_other, length-set, Contains, IsPermutation}
use Rattle.std.specs.declared.cmp.Ordering.{Ordering}
use Rattle.std.proofs.lemmas.Bool.{cases_eq}
use Rattle.std.proofs.lemmas.List.{get_or_default, get_or-map, length-map, same_lists}
use Rattle.std.proofs.lemmas.List.Edits.{swapped_from_swap, length-swap}
use Rattle.std.proofs.lemmas.List.Sorted.{Contains-permutation, All-permutation, IsPermutation-keeps, length_permutation}
use Rattle.justfile_model.specs.Lists.Order.{in_order}
use Rattle.justfile_attribute_set.specs.Places.{ArePlaces, HaveNumbers, AreAt, AreNumbered, IsInverse, Numbered}
use Rattle.justfile_attribute_set.proofs.PlaceMoves.{Turned, turned, one_source, read_turned, source_below}
use Rattle.justfile_model.proofs.Lists.OrderMaps.{in_order_map}

module _ {X : Type 0} where
  -- ---- the loop

  pub one_more_inverse : (n : ℕ) (numbered : List (Numbered X)) (places : List ℕ) (r : Numbered X) → HaveNumbers numbered → n < length numbered → r ≡ get_or numbered n r
      → IsInverse n numbered places → IsInverse (n + 1) numbered (set places r.1 n)
  one_more_inverse n numbered places r apart l e h =
      record { count = length-set places r.1 n ∙ h.count; at = λ k d m. by_cases k d m (cases_eq k n) }
    where
      is : (d : Numbered X) → get_or numbered n d ≡ r
      is d = get_or_default numbered n d r l ∙ sym e

      within : r.1 < length places
      within = let a = apart.below n r l in let b = ap (λ (s : Numbered X). s.1) (is r) in omega (arith, a, b, h.count)

      by_cases : (k : ℕ) (d : Numbered X) → k < n + 1 → (k ≡ n) ⊎ (k ≡ n → ⊥) → get_or (set places r.1 n) (get_or numbered k d).1 0 ≡ k
      by_cases k d m (inl f) =
          ap (λ i. get_or (set places r.1 n) (get_or numbered i d).1 0) f
          ∙ ap (λ (s : Numbered X). get_or (set places r.1 n) s.1 0) (is d)
          ∙ get_or-set_same places r.1 n 0 within
          ∙ sym f
      by_cases k d m (inr f) =
          let o : k < n = omega (arith, m, f) in
          get_or-set_other places r.1 (get_or numbered k d).1 n 0
          (λ g. f (apart.apart k n d (omega (arith, o, l)) l (g ∙ ap (λ (s : Numbered X). s.1) (sym (is d)))))
          ∙ h.at k d o

  -- ---- the items in another order

  abbrev numbered_of : X → Numbered X
  numbered_of x = (record { ref_ptr = (0, 0); now = x }, 0)

  module _ (xs : List X) (numbered sorted : List (Numbered X)) (h : AreNumbered (length xs) xs numbered) (perm : IsPermutation numbered sorted) where
    same_length : length sorted ≡ length xs
    same_length = length_permutation numbered sorted perm ∙ h.count

    abbrev Apart : List (Numbered X) → Type 0
    Apart l = (j k : ℕ) (d : Numbered X) → j < length l → k < length l → (get_or l j d).1 ≡ (get_or l k d).1 → j ≡ k

    apart_swapped : (l m : List (Numbered X)) (a b : ℕ) → a < length l → b < length l → m ≡ swap l a b → length m ≡ length l → Apart l
        → (j k : ℕ) (d : Numbered X) → j < length m → k < length m → (get_or m j d).1 ≡ (get_or m k d).1
        → (u : (i : ℕ) × Turned a b j i) → (v : (i : ℕ) × Turned a b k i) → j ≡ k
    apart_swapped l m a b p q e len g j k d r s f u v =
        let w = swapped_from_swap l m a b d p q e in
        let x = read_turned (λ i. get_or l i d) (λ i. get_or m i d) a b j u.0 w u.1 in
        let y = read_turned (λ i. get_or l i d) (λ i. get_or m i d) a b k v.0 w v.1 in
        one_source a b j k u.0 v.0 u.1 v.1
        (g u.0 v.0 d (source_below a b j u.0 (length l) p q (omega (arith, r, len)) u.1) (source_below a b k v.0 (length l) p q (omega (arith, s, len)) v.1)
        (ap (λ (r : Numbered X). r.1) (sym x) ∙ f ∙ ap (λ (r : Numbered X). r.1) y))

    pub have_numbers : HaveNumbers sorted
    have_numbers =
        record {
          below = λ k d l. subst (λ n. (get_or sorted k d).1 < n) (sym same_length) (all_below k d l);
          apart = IsPermutation-keeps numbered Apart first
              (λ l a b p q g j k d r s f. apart_swapped l (swap l a b) a b p q refl (length-swap l a b) g j k d r s f (turned a b j) (turned a b k)) sorted perm;
        }
      where
        all_below : (k : ℕ) (d : Numbered X) → k < length sorted → (get_or sorted k d).1 < length xs
        all_below =
            All-permutation (λ r. r.1 < length xs) numbered sorted perm
            (λ k d l. let m : k < length xs = subst (λ n. k < n) h.count l in subst (λ n. n < length xs) (sym (h.numbers k d m)) m)

        first : Apart numbered
        first j k d l m e = sym (h.numbers j d (subst (λ n. j < n) h.count l)) ∙ e ∙ h.numbers k d (subst (λ n. k < n) h.count m)

    -- ---- and their places

    module _ (places : List ℕ) (inverse : IsInverse (length sorted) sorted places) where
      -- the numbered item of an index, and where it is
      pub record Found (d : Numbered X) (j : ℕ) : Type 0 where
        pub index : ℕ
        pub within : index < length sorted
        pub number : (get_or sorted index d).1 ≡ j
        pub item : (get_or sorted index d).0.now ≡ get_or xs j d.0.now

      found : (d : Numbered X) (j : ℕ) → j < length xs → Found d j
      found d j l =
          let r = get_or numbered j d in
          let m : j < length numbered = subst (λ n. j < n) (sym h.count) l in
          let there : Contains sorted r = Contains-permutation numbered sorted r perm (j, m, get_or_default numbered j r d m) in
          let e : get_or sorted there.0 d ≡ r = get_or_default sorted there.0 d r there.1 ∙ there.2 in
          record {
            index = there.0;
            within = there.1;
            number = ap (λ (s : Numbered X). s.1) e ∙ h.numbers j d l;
            item = ap (λ (s : Numbered X). s.0.now) e ∙ h.items j d d.0.now l;
          }

      place_is : (d : Numbered X) (j : ℕ) (f : Found d j) → get_or places j 0 ≡ f.index
      place_is d j f = ap (λ i. get_or places i 0) (sym f.number) ∙ inverse.at f.index d f.within

      below : (d : Numbered X) (j : ℕ) → Found d j → get_or places j 0 < length xs
      below d j f = subst (λ i. i < length xs) (sym (place_is d j f)) (subst (λ n. f.index < n) same_length f.within)

      apart : (d : Numbered X) (j k : ℕ) → get_or places j 0 ≡ get_or places k 0 → Found d j → Found d k → j ≡ k
      apart d j k e f g =
          sym f.number ∙ ap (λ i. (get_or sorted i d).1) (sym (place_is d j f) ∙ e ∙ place_is d k g) ∙ g.number

      -- a numbered item, where there is one
      some_numbered : (l : List X) (j : ℕ) → j < length l → Numbered X
      some_numbered [] j m = absurd (omega (arith, m))
      some_numbered (x ∷ l) j m = numbered_of x

      pub are_places : ArePlaces places (length xs)
      are_places =
          record {
            count = inverse.count ∙ same_length;
            below = λ k l. let d = some_numbered xs k l in below d k (found d k l);
            apart = λ j k l m e. let d = some_numbered xs j l in apart d j k e (found d j l) (found d k m);
          }

      -- if they are in order
      pub items_at : (R : X → X → Ordering) → sorted ≡ in_order (λ (r s : Numbered X). R r.0.now s.0.now) numbered → AreAt places xs (in_order R xs)
      items_at R e =
          subst (AreAt places xs) (sym ordered)
          (record { count = length-map sorted item_of ∙ same_length; at = λ k x l. at k x l (found (numbered_of x) k l) })
        where
          item_of : Numbered X → X
          item_of r = r.0.now

          items_are : map item_of numbered ≡ xs
          items_are =
              same_lists (map item_of numbered) xs (length-map numbered item_of ∙ h.count)
              (λ k x l. let m : k < length numbered = subst (λ n. k < n) (length-map numbered item_of) l in
              get_or-map item_of numbered k (numbered_of x) x m ∙ h.items k (numbered_of x) x (subst (λ n. k < n) h.count m))

          ordered : in_order R xs ≡ map item_of sorted
          ordered =
              ap (in_order R) (sym items_are)
              ∙ in_order_map (λ (r s : Numbered X). R r.0.now s.0.now) R item_of (λ r s. refl) numbered
              ∙ ap (map item_of) (sym e)

          at : (k : ℕ) (x : X) → k < length xs → Found (numbered_of x) k → get_or (map item_of sorted) (get_or places k 0) x ≡ get_or xs k x
          at k x l f =
              ap (λ i. get_or (map item_of sorted) i x) (place_is (numbered_of x) k f)
              ∙ get_or-map item_of sorted f.index (numbered_of x) x f.within
              ∙ f.item

pub if_ok : {A E : Type 0} {P Q : A → Type 0} (r : Result A E) → ((a : A) → P a → Q a) → IfOk r P → IfOk r Q
if_ok (Ok a) f h = f a h
if_ok (Err e) f h = h
