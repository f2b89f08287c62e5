-- Modules, one more.
use Rattle.std.proofs.Common.{◌≡◌, ◌∙◌, List, [], ◌∷◌, ◌++◌, ap, map}
use Rattle.std.proofs.lemmas.List.{map-append}
use Rattle.justfile_facts.specs.Submodules.{shown_submodule}
use Rattle.justfile_problems.specs.declared.facts.Submodule.{Submodule}

pub one_more : (old new : List Submodule) (m : Submodule) → new ≡ old ++ m ∷ [] → map shown_submodule new ≡ map shown_submodule old ++ shown_submodule m ∷ []
one_more old new m is = ap (map shown_submodule) is ∙ map-append shown_submodule old (m ∷ [])
