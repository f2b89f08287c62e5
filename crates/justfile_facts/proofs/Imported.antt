-- Imports, one more.
use Rattle.std.proofs.Common.{◌≡◌, ◌∙◌, List, [], ◌∷◌, ◌++◌, ap, map}
use Rattle.std.proofs.lemmas.List.{map-append}
use Rattle.justfile_facts.specs.Imports.{shown_import}
use Rattle.justfile_problems.specs.declared.facts.Import.{Import}

pub one_more : (old new : List Import) (i : Import) → new ≡ old ++ i ∷ [] → map shown_import new ≡ map shown_import old ++ shown_import i ∷ []
one_more old new i is = ap (map shown_import) is ∙ map-append shown_import old (i ∷ [])
