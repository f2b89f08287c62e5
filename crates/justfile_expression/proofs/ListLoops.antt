-- Loops that write the elements of a list, one after another.
use Rattle.std.proofs.Common.{◌≡◌, ℕ, ◌+◌, ◌<◌, List, [], ◌∷◌, ◌++◌, length, take, drop, get_or, sym, ap, ◌∙◌, subst}
use Rattle.std.specs.List.{flat_map}
use Rattle.std.proofs.lemmas.List.{take_more, flat_map_more, take-append-drop}
use Rattle.std.proofs.lemmas.Grind.{flat_map-append}

-- for what a sink has written, and for where it failed: the text of a list is that of its elements,
-- and one more of them is written
module _ {S : Type 0} (took failed : S → List ℕ → S → Type 0)
    (more : (a b c : S) (xs ys : List ℕ) → took a xs b → took b ys c → took a (xs ++ ys) c)
    (later : (a b c : S) (xs ys : List ℕ) → took a xs b → failed b ys c → failed a (xs ++ ys) c)
    (before : (a b : S) (xs ys : List ℕ) → failed a xs b → failed a (xs ++ ys) b)
    {X : Type 0} (text : List X → List ℕ) (one : X → List ℕ) (parts : (xs : List X) → text xs ≡ flat_map one xs)
    (xs : List X) (i : ℕ) (x : X) (h : i < length xs) (e : x ≡ get_or xs i x) where
  text_more : text (take i xs) ++ one x ≡ text (take (i + 1) xs)
  text_more =
      ap (λ l. l ++ one x) (parts (take i xs)) ∙ flat_map_more one [] (take i xs) x
      ∙ ap (flat_map one) (ap (λ y. take i xs ++ y ∷ []) e ∙ sym (take_more xs i x h)) ∙ sym (parts (take (i + 1) xs))

  text_split : text (take (i + 1) xs) ++ flat_map one (drop (i + 1) xs) ≡ text xs
  text_split =
      ap (λ l. l ++ flat_map one (drop (i + 1) xs)) (parts (take (i + 1) xs)) ∙ sym (flat_map-append one (take (i + 1) xs) (drop (i + 1) xs))
      ∙ ap (flat_map one) (take-append-drop (i + 1) xs) ∙ sym (parts xs)

  pub took_next : (a b c : S) → took a (text (take i xs)) b → took b (one x) c → took a (text (take (i + 1) xs)) c
  took_next a b c p q = subst (λ (t : List ℕ). took a t c) text_more (more a b c _ _ p q)

  pub failed_next : (a b c : S) → took a (text (take i xs)) b → failed b (one x) c → failed a (text xs) c
  failed_next a b c p q =
      subst (λ (t : List ℕ). failed a t c) (ap (λ t. t ++ flat_map one (drop (i + 1) xs)) text_more ∙ text_split)
      (before a c _ _ (later a b c _ _ p q))
