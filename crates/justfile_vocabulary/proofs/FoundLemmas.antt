-- The element that a search of a list finds.
use Rattle.std.proofs.Common.{◌≡◌, Bool, true, false, List, [], ◌∷◌, Option, Some, cond, refl, subst}
use Rattle.std.specs.List.{find}

passes_at : {X : Type 0} (test : X → Bool) (x y : X) (rest : Option X) (passes : Bool) → test y ≡ passes → (rest ≡ Some x → test x ≡ true)
    → cond passes (Some y) rest ≡ Some x → test x ≡ true
passes_at test x y rest true is later e = subst (λ z. test z ≡ true) (cc e) is
passes_at test x y rest false is later e = later e

-- the element that is found passes the test
pub found_passes : {X : Type 0} (test : X → Bool) (xs : List X) (x : X) → find test xs ≡ Some x → test x ≡ true
found_passes test [] x e = absurd (cc e)
found_passes test (y ∷ ys) x e = passes_at test x y (find test ys) (test y) refl (found_passes test ys x) e
