-- What a loop keeps of a list.
use Rattle.std.proofs.Common.{◌≡◌, ◌+◌, ◌<◌, ℕ, Bool, true, false, List, [], ◌∷◌, ◌++◌, length, take, get_or, map, filter, cond, sym, ap, subst, ◌∙◌, append-nil}
use Rattle.std.proofs.lemmas.Bool.{cond-false, cond-true}
use Rattle.std.proofs.lemmas.List.{map_push}
use Rattle.std.proofs.lemmas.List.Elements.{filter_more}

-- an element that passes the test
pub kept : {X Y : Type 0} (f : X → Y) (p : X → Bool) (xs : List X) (i : ℕ) (x : X) (found next : List Y) → i < length xs → x ≡ get_or xs i x → p x ≡ true
    → found ≡ map f (filter p (take i xs)) → next ≡ found ++ f x ∷ [] → next ≡ map f (filter p (take (i + 1) xs))
kept {X} {Y} f p xs i x found next lt is t h e =
    let one : cond (p (get_or xs i x)) (get_or xs i x ∷ []) [] ≡ x ∷ [] =
    subst (λ (y : X). cond (p y) (y ∷ []) [] ≡ x ∷ []) is (cond-true (p x) (x ∷ []) [] t)
    in
    e
    ∙ ap (λ (l : List Y). l ++ f x ∷ []) h
    ∙ sym (map_push f (filter p (take i xs)) x)
    ∙ ap (map f) (sym (filter_more p xs i x lt ∙ ap (λ (l : List X). filter p (take i xs) ++ l) one))

-- an element that doesn't
pub left_out : {X Y : Type 0} (f : X → Y) (p : X → Bool) (xs : List X) (i : ℕ) (x : X) (found : List Y) → i < length xs → x ≡ get_or xs i x → p x ≡ false
    → found ≡ map f (filter p (take i xs)) → found ≡ map f (filter p (take (i + 1) xs))
left_out {X} {Y} f p xs i x found lt is t h =
    let none : cond (p (get_or xs i x)) (get_or xs i x ∷ []) [] ≡ [] =
    subst (λ (y : X). cond (p y) (y ∷ []) [] ≡ []) is (cond-false (p x) (x ∷ []) [] t)
    in
    h ∙ ap (map f) (sym (filter_more p xs i x lt ∙ ap (λ (l : List X). filter p (take i xs) ++ l) none ∙ append-nil (filter p (take i xs))))
