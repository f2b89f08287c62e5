-- Related lists and optional values: the elements that are found, filtered or least are related.
use Rattle.std.proofs.Common.{◌≡◌, ℕ, Bool, true, false, cond, List, [], ◌∷◌, map, Option, Some, is_some, refl, subst}
use Rattle.std.specs.List.{cons_option, filter, filter_map, find}
use Rattle.std.specs.Ordering.{is_gt}
use Rattle.justfile_model.specs.Meanings.AttributeRules.{least, lesser, of_some}
use Rattle.justfile_model.specs.Trees.ContentLeaf.{text_cmp}
use Rattle.justfile_model.specs.Meanings.Meaning.{first_of}
use Rattle.justfile_model.proofs.Relations.Related.{Each}
pub use Rattle.justfile_model.proofs.Relations.Related.{AlikeOption, absent, present}
use Rattle.justfile_model.proofs.Relations.Related.Each.{cons, nil}

with_given : {X Y : Type 0} {Rel : X → Y → Type 0} {o : Option X} {o' : Option Y} {xs : List X} {ys : List Y} → AlikeOption Rel o o' → Each Rel xs ys
    → Each Rel (cons_option o xs) (cons_option o' ys)
with_given absent k = k
with_given (present h) k = cons h k

module _ {X Y : Type 0} {Rel : X → Y → Type 0} where
  pub same_some : {o : Option X} {o' : Option Y} → AlikeOption Rel o o' → is_some o ≡ is_some o'
  same_some absent = refl
  same_some (present h) = refl

  pub none_alike : {xs : List X} {ys : List Y} → Each Rel xs ys → xs ≡ [] → ys ≡ []
  none_alike nil e = refl
  none_alike (cons h hs) e = cc

  pub first_alike : {xs : List X} {ys : List Y} → Each Rel xs ys → AlikeOption Rel (first_of xs) (first_of ys)
  first_alike nil = absent
  first_alike (cons h hs) = present h

  pub each_mapped : {Z W : Type 0} {Rel' : Z → W → Type 0} (f : X → Z) (g : Y → W) → ((x : X) (y : Y) → Rel x y → Rel' (f x) (g y))
      → {xs : List X} {ys : List Y} → Each Rel xs ys
      → Each Rel' (map f xs) (map g ys)
  each_mapped f g k nil = nil
  each_mapped f g k (cons {x = x} {y = y} h hs) = cons (k x y h) (each_mapped f g k hs)

  -- what is listed of the value, if there is one
  pub listed_alike : {Z W : Type 0} {Rel' : Z → W → Type 0} (f : X → List Z) (g : Y → List W) → ((x : X) (y : Y) → Rel x y → Each Rel' (f x) (g y))
      → {o : Option X} {o' : Option Y}
      → AlikeOption Rel o o' → Each Rel' (of_some f o) (of_some g o')
  listed_alike f g k absent = nil
  listed_alike f g k (present {x = x} {y = y} h) = k x y h

  pub each_given : {Z W : Type 0} {Rel' : Z → W → Type 0} (f : X → Option Z) (g : Y → Option W) → ((x : X) (y : Y) → Rel x y → AlikeOption Rel' (f x) (g y))
      → {xs : List X} {ys : List Y}
      → Each Rel xs ys → Each Rel' (filter_map f xs) (filter_map g ys)
  each_given f g k nil = nil
  each_given f g k (cons {x = x} {y = y} h hs) = with_given (k x y h) (each_given f g k hs)

  -- ---- tests that agree

  module _ (p : X → Bool) (q : Y → Bool) (same : (x : X) (y : Y) → Rel x y → p x ≡ q y) where
    pub found_alike : {xs : List X} {ys : List Y} → Each Rel xs ys → AlikeOption Rel (find p xs) (find q ys)
    found_alike nil = absent
    found_alike (cons {x = x} {y = y} {xs = xs} {ys = ys} h hs) =
        subst (λ b. AlikeOption Rel (find p (x ∷ xs)) (cond b (Some y) (find q ys))) (same x y h) (within (found_alike hs) (p x))
      where
        within : AlikeOption Rel (find p xs) (find q ys) → (b : Bool) → AlikeOption Rel (cond b (Some x) (find p xs)) (cond b (Some y) (find q ys))
        within k true = present h
        within k false = k

    pub kept_alike : {xs : List X} {ys : List Y} → Each Rel xs ys → Each Rel (filter p xs) (filter q ys)
    kept_alike nil = nil
    kept_alike (cons {x = x} {y = y} {xs = xs} {ys = ys} h hs) =
        subst (λ b. Each Rel (filter p (x ∷ xs)) (cond b (y ∷ filter q ys) (filter q ys))) (same x y h) (within (kept_alike hs) (p x))
      where
        within : Each Rel (filter p xs) (filter q ys) → (b : Bool) → Each Rel (cond b (x ∷ filter p xs) (filter p xs)) (cond b (y ∷ filter q ys) (filter q ys))
        within k true = cons h k
        within k false = k

  -- ---- the least

  module _ (text : X → List ℕ) (text' : Y → List ℕ) (same : (x : X) (y : Y) → Rel x y → text x ≡ text' y) where
    lesser_alike : {x : X} {y : Y} {o : Option X} {o' : Option Y} → Rel x y → AlikeOption Rel o o' → Rel (lesser text x o) (lesser text' y o')
    lesser_alike h absent = h
    lesser_alike {x} {y} h (present {x = z} {y = w} k) =
        subst (λ c. Rel (lesser text x (Some z)) (cond (is_gt c) w y)) (λ i. text_cmp (same x y h i) (same z w k i))
        (within (is_gt (text_cmp (text x) (text z))))
      where
        within : (b : Bool) → Rel (cond b z x) (cond b w y)
        within true = k
        within false = h

    pub least_alike : {xs : List X} {ys : List Y} → Each Rel xs ys → AlikeOption Rel (least text xs) (least text' ys)
    least_alike nil = absent
    least_alike (cons h hs) = present (lesser_alike h (least_alike hs))
