-- What is added for one name.
use Rattle.std.proofs.Common.{◌≡◌, ◌∙◌, ℕ, List, [], ◌∷◌, ◌++◌, ap}
use Rattle.std.specs.Borrow.{Bor}
use Rattle.std.proofs.lemmas.List.{map-append}
use Rattle.variables.specs.Variables.{texts}

pub pushed : (old new : List (Bor (List ℕ))) (name : Bor (List ℕ)) → new ≡ old ++ name ∷ [] → texts new ≡ texts old ++ name.now ∷ []
pushed old new name e = ap texts e ∙ map-append (λ n. n.now) old (name ∷ [])
