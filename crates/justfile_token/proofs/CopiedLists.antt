-- Lists of copies.
use Rattle.std.proofs.Common.{◌≡◌, ℕ, ◌+◌, ◌<◌, List, [], ◌∷◌, ◌++◌, length, take, get_or, sym, ap, ◌∙◌, subst}
use Rattle.std.specs.List.{AllZip}
use Rattle.std.proofs.lemmas.List.{take_more}
use Rattle.std.proofs.lemmas.List.Elements.{AllZip-push}

-- one more copy, of one more original
pub one_more : {X : Type 0} (R : X → X → Type 0) (copies all later : List X) (i : ℕ) (copy original : X) → i < length all → original ≡ get_or all i original
    → AllZip R copies (take i all) → R copy original → later ≡ copies ++ copy ∷ []
    → AllZip R later (take (i + 1) all)
one_more {X} R copies all later i copy original h is so_far same e =
    subst (λ (l : List X). AllZip R l (take (i + 1) all)) (sym e)
    (subst (λ (l : List X). AllZip R (copies ++ copy ∷ []) l)
    (ap (λ (x : X). take i all ++ x ∷ []) is ∙ sym (take_more all i original h))
    (AllZip-push R copies (take i all) copy original so_far same))
