-- Loops that make one list from another.
use Rattle.std.proofs.Common.{◌≡◌, ◌∙◌, ◌+◌, ◌<◌, ℕ, List, [], ◌∷◌, ◌++◌, append_assoc, ap, sym, get_or, length, map, take}
use Rattle.std.proofs.lemmas.List.{map-append, take_more}

-- an element more, which is told as that of the other list
pub mapped_more : {A B C : Type 0} (f : A → C) (g : B → C) (xs : List A) (ys : List B) (i : ℕ) (x : A) (y : B) → i < length ys → y ≡ get_or ys i y → map f xs ≡ map g (take i ys) → f x ≡ g y → map f (xs ++ x ∷ []) ≡ map g (take (i + 1) ys)
mapped_more f g xs ys i x y inside at so_far e =
    map-append f xs (x ∷ []) ∙ ap (λ l. l ++ f x ∷ []) so_far ∙ ap (λ v. map g (take i ys) ++ v ∷ []) e
    ∙ sym (ap (map g) (take_more ys i y inside ∙ ap (λ v. take i ys ++ v ∷ []) (sym at)) ∙ map-append g (take i ys) (y ∷ []))

-- lists that are told one after the other
pub mapped_append : {A C : Type 0} (f : A → C) (xs ys made : List A) → made ≡ xs ++ ys → map f made ≡ map f xs ++ map f ys
mapped_append f xs ys made e = ap (map f) e ∙ map-append f xs ys

-- an element more, after those that were there before
pub mapped_onto : {A B C : Type 0} (f : A → C) (g : B → C) (old : List C) (xs : List A) (ys : List B) (i : ℕ) (x : A) (y : B) → i < length ys → y ≡ get_or ys i y → map f xs ≡ old ++ map g (take i ys) → f x ≡ g y
    → map f (xs ++ x ∷ []) ≡ old ++ map g (take (i + 1) ys)
mapped_onto f g old xs ys i x y inside at so_far e =
    map-append f xs (x ∷ []) ∙ ap (λ l. l ++ f x ∷ []) so_far ∙ append_assoc old (map g (take i ys)) (f x ∷ [])
    ∙ ap (λ v. old ++ (map g (take i ys) ++ v ∷ [])) e
    ∙ sym (ap (λ l. old ++ map g l) (take_more ys i y inside ∙ ap (λ v. take i ys ++ v ∷ []) (sym at)) ∙ ap (λ l. old ++ l) (map-append g (take i ys) (y ∷ [])))
