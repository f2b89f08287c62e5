-- Where an item uses names of modules.
use Rattle.std.specs.Prelude.{List, [], ◌∷◌, cond, false, length}
use Rattle.std.specs.List.{flat_map}
use Rattle.justfile_token.specs.Namepath.{names_in}
use Rattle.justfile_token.specs.declared.name.Name.{Name}
use Rattle.justfile_problems.specs.declared.facts.Member.{Member}
use Rattle.justfile_problems.specs.declared.facts.Role.{Role}
use Rattle.justfile_problems.specs.declared.facts.Role.TheVariants as roles
use Rattle.justfile_recipe_header.specs.declared.unresolved_dependency.UnresolvedDependency.{UnresolvedDependency}
use Rattle.justfile_item.specs.Item.{is_item_enabled}
use Rattle.justfile_item.specs.declared.item.Item.{Item}
use Rattle.justfile_item.specs.declared.item.Item.TheVariants as items
use Rattle.justfile_facts.specs.Uses.{used}

-- the use of an item of a module: its path is the module's name and its own
abbrev pub in_module : Role → (item : Name) → List Name → List Member
in_module role item [] = []
in_module role item (name ∷ []) = []
in_module role item (owner ∷ name ∷ []) = record { owner = owner; used = used role item name false } ∷ []
in_module role item (owner ∷ name ∷ other ∷ others) = []

abbrev pub dependency_members : (recipe : Name) → UnresolvedDependency → List Member
dependency_members recipe d = in_module (roles.Dependency (length d.arguments.items)) recipe (names_in d.recipe)

-- where an item uses names of modules that is enabled
abbrev pub enabled_members : Item → List Member
enabled_members (items.Alias a) = in_module roles.Target a.name (names_in a.target)
enabled_members (items.Recipe r) = flat_map (dependency_members r.name) r.dependencies.items
enabled_members other = []

abbrev pub item_members : Item → List Member
item_members i = cond (is_item_enabled i) (enabled_members i) []
