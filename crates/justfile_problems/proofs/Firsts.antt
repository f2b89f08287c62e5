-- The first definition of a name, one definition later.
use Rattle.std.proofs.Common.{◌≡◌, ◌∙◌, ◌<◌, ◌+◌, ℕ, Bool, Option, Some, None, List, [], ◌∷◌, ◌++◌, length, take, get_or, cond, sym, ap}
use Rattle.std.specs.List.{find}
use Rattle.std.specs.Option.{option_or}
use Rattle.std.proofs.lemmas.List.{take_more}
use Rattle.std.proofs.lemmas.List.Folds.{find-append}

-- a list's first element that passes, with one more element
pub one_more : {X : Type 0} (p : X → Bool) (xs : List X) (i : ℕ) (x : X) → i < length xs → x ≡ get_or xs i x → (old new : Option X) → old ≡ find p (take i xs) → new ≡ option_or old (cond (p x) (Some x) None)
    → new ≡ find p (take (i + 1) xs)
one_more p xs i x inside at old new so_far e =
    e ∙ ap (λ o. option_or o (cond (p x) (Some x) None)) so_far
    ∙ sym (ap (find p) (take_more xs i x inside ∙ ap (λ y. take i xs ++ y ∷ []) (sym at)) ∙ find-append p (take i xs) (x ∷ []))
