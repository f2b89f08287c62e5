-- Where the defaults of parameters are.
use Rattle.std.specs.Prelude.{ℕ, ◌-◌, ◌&&◌, Bool, false, List, [], ◌∷◌, Option, None, Some, length, nat_lt, slice_get}
use Rattle.justfile_token.specs.Namepath.{names_in}
use Rattle.justfile_token.specs.declared.name.Name.{Name}
use Rattle.justfile_token.specs.declared.namepath.Namepath.{Namepath}
use Rattle.justfile_token.specs.declared.token.Token.{Token}
use Rattle.justfile_line.specs.declared.line.Line.{Line}
use Rattle.justfile_recipe_header.specs.declared.unresolved_dependency.UnresolvedDependency.{UnresolvedDependency}
use Rattle.justfile_item.specs.declared.item.Item.{Item}
use Rattle.justfile_item.specs.declared.item.Item.TheVariants as items
use Rattle.justfile_references.specs.declared.defaults.Defaults.{Defaults}
use Rattle.justfile_references.specs.declared.defaults.Defaults.TheVariants.{After, BeforeLine, Between, Nowhere}

abbrev pub name_offset : Option Name → ℕ
name_offset None = 0
name_offset (Some name) = name.token.offset

-- where the last name of a path is
abbrev pub last_offset : Namepath → ℕ
last_offset path = name_offset (slice_get (names_in path) (length (names_in path) - 1))

-- where the defaults are of a recipe whose name is at an offset: before its dependencies, or else before its body
abbrev pub defaults_before : (start : ℕ) → List UnresolvedDependency → List Line → Defaults
defaults_before start (dependency ∷ others) body = Between start (last_offset dependency.recipe)
defaults_before start [] (line ∷ lines) = BeforeLine start line.number
defaults_before start [] [] = After start

-- where the defaults of the parameters of an item are
abbrev pub defaults_of : Item → Defaults
defaults_of (items.Recipe r) = defaults_before r.name.token.offset r.dependencies.items r.body.items
defaults_of other = Nowhere

-- whether a token is in them
abbrev pub is_in : Defaults → Token → Bool
is_in Nowhere t = false
is_in (After start) t = nat_lt start t.offset
is_in (Between start end) t = nat_lt start t.offset && nat_lt t.offset end
is_in (BeforeLine start line) t = nat_lt start t.offset && nat_lt t.line line
