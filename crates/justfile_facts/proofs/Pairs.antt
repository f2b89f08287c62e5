-- Paths that are none of a module and a name.
use Rattle.std.proofs.Common.{◌≡◌, List, [], ◌∷◌, ◌++◌, ap, ◌∙◌}
use Rattle.justfile_token.specs.declared.name.Name.{Name}
use Rattle.justfile_problems.specs.declared.facts.Role.{Role}
use Rattle.justfile_facts.specs.Members.{in_module}

pub not_one : (role : Role) (item : Name) (names before : List Name) (name : Name) → names ≡ before ++ name ∷ [] → before ≡ [] → in_module role item names ≡ []
not_one role item names before name is none = ap (in_module role item) (is ∙ ap (λ l. l ++ name ∷ []) none)

pub not_more : (role : Role) (item : Name) (names others : List Name) (a b name : Name) → names ≡ (a ∷ b ∷ others) ++ name ∷ [] → in_module role item names ≡ []
not_more role item names [] a b name is = ap (in_module role item) is
not_more role item names (c ∷ others) a b name is = ap (in_module role item) is
