-- Lists that a loop appends to, one element later.
use Rattle.std.proofs.Common.{◌≡◌, ◌∙◌, ◌+◌, ◌<◌, ℕ, List, [], ◌∷◌, ◌++◌, ap, append-nil, append_assoc, get_or, length, sym, take}
use Rattle.std.specs.List.{flat_map}
use Rattle.std.proofs.lemmas.Grind.{flat_map-append}
use Rattle.std.proofs.lemmas.List.{take_more}

pub one_later : {X Y : Type 0} (f : X → List Y) (xs : List X) (i : ℕ) (x : X) (start old new : List Y) → i < length xs → x ≡ get_or xs i x
    → old ≡ start ++ flat_map f (take i xs) → new ≡ old ++ f x → new ≡ start ++ flat_map f (take (i + 1) xs)
one_later f xs i x start old new inside at so_far e =
    e ∙ ap (λ l. l ++ f x) so_far ∙ append_assoc start (flat_map f (take i xs)) (f x)
    ∙ sym (ap (λ l. start ++ flat_map f l) (take_more xs i x inside ∙ ap (λ y. take i xs ++ y ∷ []) (sym at))
    ∙ ap (λ l. start ++ l) (flat_map-append f (take i xs) (x ∷ []) ∙ ap (λ l. flat_map f (take i xs) ++ l) (append-nil (f x))))
