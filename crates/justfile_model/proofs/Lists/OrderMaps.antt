-- Related lists have related sorted lists, if the comparisons agree.
use Rattle.std.proofs.Common.{◌≡◌, ◌∙◌, ◌+◌, List, [], ◌∷◌, Bool, true, false, cond, map, refl, sym, ap, subst, arith}
use Rattle.std.specs.Ordering.{is_gt, is_lt, on}
use Rattle.std.specs.List.{All}
use Rattle.std.specs.List.Sorted.{IsSorted}
use Rattle.std.specs.declared.cmp.Ordering.{Ordering}
use Rattle.std.proofs.lemmas.List.{get_or-map, length-map}
use Rattle.std.proofs.lemmas.List.Elements.{All-head, All-tail}
use Rattle.justfile_model.specs.Lists.Order.{placed, in_order}
use Rattle.justfile_model.proofs.Lists.OrderLaws.{all_in_order}
use Rattle.justfile_model.proofs.Relations.Related.{Each}
use Rattle.justfile_model.proofs.Relations.Related.Each.{nil, cons}

module _ {X Y : Type 0} (R : X → X → Ordering) (S : Y → Y → Ordering) where
  -- ---- a function that keeps what is compared, of elements that have P

  module _ (f : X → Y) (P : X → Type 0) (same : (x y : X) → P x → P y → S (f x) (f y) ≡ R x y) where
    placed_mapped : (x : X) (ys : List X) → P x → All P ys → placed S (f x) (map f ys) ≡ map f (placed R x ys)
    placed_mapped x [] h k = refl
    placed_mapped x (y ∷ ys) h k =
        ap (λ c. cond (is_gt c) (f y ∷ placed S (f x) (map f ys)) (f x ∷ f y ∷ map f ys)) (same x y h (All-head P y ys k))
        ∙ within (placed_mapped x ys h (All-tail P y ys k)) (is_gt (R x y))
      where
        within : placed S (f x) (map f ys) ≡ map f (placed R x ys) → (b : Bool)
            → cond b (f y ∷ placed S (f x) (map f ys)) (f x ∷ f y ∷ map f ys) ≡ map f (cond b (y ∷ placed R x ys) (x ∷ y ∷ ys))
        within g true = ap (λ l. f y ∷ l) g
        within g false = refl

    pub in_order_map_where : (xs : List X) → All P xs → in_order S (map f xs) ≡ map f (in_order R xs)
    in_order_map_where [] h = refl
    in_order_map_where (x ∷ xs) h =
        ap (λ l. placed S (f x) l) (in_order_map_where xs (All-tail P x xs h))
        ∙ placed_mapped x (in_order R xs) (All-head P x xs h) (all_in_order R P xs (All-tail P x xs h))

  -- of all elements
  pub in_order_map : (f : X → Y) → ((x y : X) → S (f x) (f y) ≡ R x y) → (xs : List X) → in_order S (map f xs) ≡ map f (in_order R xs)
  in_order_map f same xs = in_order_map_where f (λ x. Unit {0}) (λ x y h k. same x y) xs (λ k d l. tt)

  -- ---- a relation in place of the function

  module _ {Rel : X → Y → Type 0} (same : (x x' : X) (y y' : Y) → Rel x y → Rel x' y' → R x x' ≡ S y y') where
    placed_each : {x : X} {y : Y} {xs : List X} {ys : List Y} → Rel x y → Each Rel xs ys → Each Rel (placed R x xs) (placed S y ys)
    placed_each h nil = cons h nil
    placed_each {x} {y} h (cons {x = x'} {y = y'} {xs = xs} {ys = ys} k ks) =
        subst (λ c. Each Rel (placed R x (x' ∷ xs)) (cond (is_gt c) (y' ∷ placed S y ys) (y ∷ y' ∷ ys))) (same x x' y y' h k)
        (within (placed_each h ks) (is_gt (R x x')))
      where
        within : Each Rel (placed R x xs) (placed S y ys) → (b : Bool)
            → Each Rel (cond b (x' ∷ placed R x xs) (x ∷ x' ∷ xs)) (cond b (y' ∷ placed S y ys) (y ∷ y' ∷ ys))
        within g true = cons k g
        within g false = cons h (cons k ks)

    pub each_in_order : {xs : List X} {ys : List Y} → Each Rel xs ys → Each Rel (in_order R xs) (in_order S ys)
    each_in_order nil = nil
    each_in_order (cons h hs) = placed_each h (each_in_order hs)

-- ---- lists that are in order where their keys are

module _ {X K : Type 0} (key : X → K) (R : K → K → Ordering) where
  pub keys_sorted : (xs : List X) → IsSorted (on key R) xs → IsSorted R (map key xs)
  keys_sorted [] h k d z l = absurd (omega arith)
  keys_sorted (x ∷ xs) h k d z l =
      let m = length-map (x ∷ xs) key in
      let a = get_or-map key (x ∷ xs) (k + 1) x d (omega arith) in
      let b = get_or-map key (x ∷ xs) k x d (omega arith) in
      (λ i. is_lt (R (a i) (b i))) ∙ h k x z (omega arith)

  pub sorted_from_keys : (xs : List X) → IsSorted R (map key xs) → IsSorted (on key R) xs
  sorted_from_keys xs h k d z l =
      let m = length-map xs key in
      let a = sym (get_or-map key xs (k + 1) d (key d) (omega arith)) in
      let b = sym (get_or-map key xs k d (key d) (omega arith)) in
      (λ i. is_lt (R (a i) (b i))) ∙ h k (key d) z (omega arith)
