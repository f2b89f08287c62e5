-- What is kept of a list, one element after the other.
use Rattle.std.proofs.Common.{◌≡◌, ◌∙◌, ◌+◌, ◌<◌, ℕ, List, [], ◌∷◌, ◌++◌, length, take, get_or, Option, None, Some, refl, sym, ap}
use Rattle.std.specs.List.{cons_option, filter_map}
use Rattle.std.specs.Option.{option_to_list}
use Rattle.std.proofs.lemmas.List.{take_more}
use Rattle.std.proofs.lemmas.List.Elements.{filter_map-append}

one_kept : {Y : Type 0} (o : Option Y) → option_to_list o ≡ cons_option o []
one_kept None = refl
one_kept (Some y) = refl

of_one : {X Y : Type 0} (h : X → Option Y) (x : X) (o : Option Y) → o ≡ h x → option_to_list o ≡ filter_map h (x ∷ [])
of_one {X} {Y} h x o e = one_kept o ∙ ap (λ (k : Option Y). cons_option k []) e

pub kept_more : {X Y : Type 0} (h : X → Option Y) (xs : List X) (i : ℕ) (x : X) (o : Option Y) (old new : List Y) → i < length xs → x ≡ get_or xs i x → o ≡ h x
    → old ≡ filter_map h (take i xs) → new ≡ old ++ option_to_list o → new ≡ filter_map h (take (i + 1) xs)
kept_more {X} {Y} h xs i x o old new lt is e before made =
    made
    ∙ ap (λ (l : List Y). l ++ option_to_list o) before
    ∙ ap (λ (l : List Y). filter_map h (take i xs) ++ l) (of_one h x o e)
    ∙ sym (filter_map-append h (take i xs) (x ∷ []))
    ∙ ap (filter_map h) (ap (λ (y : X). take i xs ++ y ∷ []) is ∙ sym (take_more xs i x lt))
