-- The text of the alternatives after the first, with the last one separate from the others.
use Rattle.std.proofs.Common.{◌≡◌, ℕ, Bool, true, false, List, [], ◌∷◌, ◌++◌, length, map, nat_eq, refl, ap, sym, ◌∙◌}
use Rattle.std.specs.List.{flat_map}
use Rattle.std.proofs.lemmas.List.{append_assoc}
use Rattle.std.proofs.Math.Dec.{eqb-suc-zero}
use Rattle.justfile_message.specs.List.{after_comma, following_text, last_separator, other_text}

module _ {X : Type 0} (text : X → List ℕ) where
  abbrev is_next : Bool → List X → Bool
  is_next is_second [] = is_second
  is_next is_second (x ∷ xs) = false

  following_last : (is_second : Bool) (others : List X) (last : X)
      → following_text is_second (map text (others ++ last ∷ [])) ≡ flat_map (λ x. after_comma (text x)) others ++ (last_separator (is_next is_second others) ++ text last)
  following_last is_second [] last = refl
  following_last is_second (x ∷ []) last = sym (append_assoc (after_comma (text x)) [] (last_separator false ++ text last))
  following_last is_second (x ∷ y ∷ ys) last =
      ap (λ l. after_comma (text x) ++ l) (following_last false (y ∷ ys) last)
      ∙ sym (append_assoc (after_comma (text x)) (flat_map (λ x. after_comma (text x)) (y ∷ ys)) (last_separator false ++ text last))

  is_none : (others : List X) → nat_eq (length others) 0 ≡ is_next true others
  is_none [] = refl
  is_none (x ∷ xs) = eqb-suc-zero (length xs)

  -- commas, then the separator, then the last one
  pub others_text : (xs others : List X) (last : X) (is_second : Bool) → xs ≡ others ++ last ∷ [] → is_second ≡ nat_eq (length others) 0
      → flat_map (λ x. after_comma (text x)) others ++ (last_separator is_second ++ text last) ≡ other_text (map text xs)
  others_text xs others last is_second cut e =
      ap (λ b. flat_map (λ x. after_comma (text x)) others ++ (last_separator b ++ text last)) (e ∙ is_none others)
      ∙ sym (following_last true others last) ∙ ap (λ l. other_text (map text l)) (sym cut)
