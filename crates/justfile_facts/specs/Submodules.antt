-- The modules that items are.
use Rattle.std.specs.Prelude.{ℕ, Bool, true, List, [], ◌∷◌, Option, None, Some, cond, string_bytes}
use Rattle.std.specs.Option.{option_map}
use Rattle.justfile_token.specs.declared.name.Name.{Name}
use Rattle.justfile_token.specs.declared.string_literal.StringLiteral.{StringLiteral}
use Rattle.justfile_item.specs.Item.{is_item_enabled}
use Rattle.justfile_item.specs.declared.item.Item.{Item}
use Rattle.justfile_item.specs.declared.item.Item.TheVariants as items
use Rattle.justfile_problems.specs.declared.facts.Submodule.{Submodule}
use Rattle.justfile_facts.specs.Imports.{is_plain}

-- a module: its name, the path that it is given, if it is, whether that leads to the file as it is, and whether the file need not exist
pub record Nested : Type 0 where
  pub name : Name
  pub path : Option (List ℕ)
  pub plain : Bool
  pub optional : Bool

abbrev pub shown_submodule : Submodule → Nested
shown_submodule m = record { name = m.name; path = option_map string_bytes m.path; plain = m.plain; optional = m.optional }

abbrev pub submodule_at : Name → (optional : Bool) → (path : Option StringLiteral) → Nested
submodule_at name optional None = record { name = name; path = None; plain = true; optional = optional }
submodule_at name optional (Some literal) = record { name = name; path = Some (string_bytes literal.cooked); plain = is_plain literal; optional = optional }

abbrev pub enabled_submodules : Item → List Nested
enabled_submodules (items.Module attributes doc name optional relative) = submodule_at name optional relative ∷ []
enabled_submodules other = []

-- an item, if it is a module that is enabled
abbrev pub item_submodules : Item → List Nested
item_submodules i = cond (is_item_enabled i) (enabled_submodules i) []
