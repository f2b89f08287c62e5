-- Lists that are written one element after the other.
use Rattle.std.proofs.Common.{◌≡◌, ◌∙◌, ◌<◌, ◌≤◌, ℕ, ◌+◌, Bool, true, false, List, [], ◌∷◌, ◌++◌, length, map, get_or, take, codes, refl, sym, ap, subst, append-nil, append_assoc}
use Rattle.std.proofs.lemmas.List.{map-append, take_all, take_more}
use Rattle.serde_json.specs.Data.{Data}
use Rattle.serde_json.specs.View.{items_of}
use Rattle.serde_json.specs.Written.{comma_if, compact_text, items_text}
use Rattle.editor_json.specs.Integers.{HasIntegers, ItemsHaveIntegers}

-- the elements with their commas, and whether one more would have one
abbrev pub open_items : Bool → List Data → List ℕ
open_items later [] = []
open_items later (d ∷ ds) = comma_if later ++ (compact_text d ++ open_items true ds)

abbrev pub is_after : Bool → List Data → Bool
is_after later [] = later
is_after later (d ∷ ds) = is_after true ds

after_more : (later : Bool) (ds : List Data) (d : Data) → is_after later (ds ++ d ∷ []) ≡ true
after_more later [] d = refl
after_more later (e ∷ ds) d = after_more true ds d

regroup : (a b c d : List ℕ) → a ++ (b ++ (c ++ d)) ≡ (a ++ (b ++ c)) ++ d
regroup a b c d = ap (λ t. a ++ t) (sym (append_assoc b c d)) ∙ sym (append_assoc a (b ++ c) d)

closed : (later : Bool) (ds : List Data) → items_text later (items_of ds) ≡ open_items later ds ++ 93 ∷ []
closed later [] = refl
closed later (d ∷ ds) = ap (λ t. comma_if later ++ (compact_text d ++ t)) (closed true ds) ∙ regroup (comma_if later) (compact_text d) (open_items true ds) (93 ∷ [])

open_more : (later : Bool) (ds : List Data) (d : Data) → open_items later (ds ++ d ∷ []) ≡ open_items later ds ++ (comma_if (is_after later ds) ++ compact_text d)
open_more later [] d = ap (λ t. comma_if later ++ t) (append-nil (compact_text d))
open_more later (e ∷ ds) d =
    ap (λ t. comma_if later ++ (compact_text e ++ t)) (open_more true ds d)
    ∙ regroup (comma_if later) (compact_text e) (open_items true ds) (comma_if (is_after true ds) ++ compact_text d)

-- what was written of the first elements of a list
pub record IsOpen (text : List ℕ) (later : Bool) (ds : List Data) : Type 0 where
  pub is : text ≡ 91 ∷ open_items false ds
  pub is_later : later ≡ is_after false ds
  pub integers : ItemsHaveIntegers (items_of ds)

integers_more : (ds : List Data) (d : Data) → ItemsHaveIntegers (items_of ds) → HasIntegers d → ItemsHaveIntegers (items_of (ds ++ d ∷ []))
integers_more [] d h k = (k, tt)
integers_more (e ∷ ds) d h k = (h.0, integers_more ds d h.1 k)

one_more : (old new piece : List ℕ) (later : Bool) (ds es : List Data) (d : Data) → es ≡ ds ++ d ∷ [] → IsOpen old later ds → piece ≡ compact_text d → HasIntegers d → new ≡ old ++ (comma_if later ++ piece) → IsOpen new true es
one_more old new piece later ds es d more h p k e = record {
  is =
      e ∙ ap (λ t. t ++ (comma_if later ++ piece)) h.is
      ∙ ap (λ t. (91 ∷ open_items false ds) ++ (comma_if later ++ t)) p
      ∙ ap (λ l. (91 ∷ open_items false ds) ++ (comma_if l ++ compact_text d)) h.is_later
      ∙ ap (λ (t : List ℕ). 91 ∷ t) (sym (open_more false ds d))
      ∙ ap (λ s. 91 ∷ open_items false s) (sym more);
  is_later = sym (after_more false ds d) ∙ ap (is_after false) (sym more);
  integers = subst (λ s. ItemsHaveIntegers (items_of s)) (sym more) (integers_more ds d h.integers k);
}

pub next_open : {X : Type 0} (f : X → Data) (xs : List X) (i : ℕ) (x : X) → i < length xs → x ≡ get_or xs i x → (old new piece : List ℕ) (later : Bool) → IsOpen old later (map f (take i xs)) → piece ≡ compact_text (f x)
    → HasIntegers (f x) → new ≡ old ++ (comma_if later ++ piece) → IsOpen new true (map f (take (i + 1) xs))
next_open f xs i x inside at old new piece later h p k e =
    one_more old new piece later (map f (take i xs)) (map f (take (i + 1) xs)) (f x)
    (ap (map f) (take_more xs i x inside ∙ ap (λ y. take i xs ++ y ∷ []) (sym at)) ∙ map-append f (take i xs) (x ∷ [])) h p k e

pub all_closed : {X : Type 0} (f : X → Data) (xs : List X) (i : ℕ) → length xs ≤ i → (old new : List ℕ) (later : Bool) → IsOpen old later (map f (take i xs)) → new ≡ old ++ codes "]"
    → new ≡ 91 ∷ items_text false (items_of (map f xs))
all_closed f xs i end old new later h e =
    e ∙ ap (λ t. t ++ 93 ∷ []) h.is ∙ ap (λ (t : List ℕ). 91 ∷ t) (sym (closed false (map f (take i xs))))
    ∙ ap (λ ys. 91 ∷ items_text false (items_of (map f ys))) (take_all i xs end)

pub all_integers : {X : Type 0} (f : X → Data) (xs : List X) (i : ℕ) → length xs ≤ i → (text : List ℕ) (later : Bool) → IsOpen text later (map f (take i xs)) → ItemsHaveIntegers (items_of (map f xs))
all_integers f xs i end text later h = subst (λ ys. ItemsHaveIntegers (items_of (map f ys))) (take_all i xs end) h.integers
