-- The files that items import.
use Rattle.std.specs.Prelude.{◌&&◌, ◌==◌, ℕ, Bool, not, List, [], ◌∷◌, cond, slice_index, string_bytes}
use Rattle.justfile_token.specs.declared.string_literal.StringLiteral.{StringLiteral}
use Rattle.justfile_token.specs.declared.token.Token.{Token}
use Rattle.justfile_item.specs.Item.{is_item_enabled}
use Rattle.justfile_item.specs.declared.item.Item.{Item}
use Rattle.justfile_item.specs.declared.item.Item.TheVariants as items
use Rattle.justfile_problems.specs.declared.facts.Import.{Import}

-- an import: its path, whether that leads to the file as it is, whether the file need not exist, and the token of the path
pub record Imported : Type 0 where
  pub path : List ℕ
  pub plain : Bool
  pub optional : Bool
  pub token : Token

abbrev pub shown_import : Import → Imported
shown_import i = record { path = string_bytes i.path; plain = i.plain; optional = i.optional; token = i.token }

-- `~`
abbrev pub tilde : ℕ
tilde = 126

-- a path that isn't expanded, and doesn't begin with `~`
abbrev pub is_plain : StringLiteral → Bool
is_plain literal = not literal.expand && not (slice_index (string_bytes literal.cooked) 0 == tilde)

abbrev pub import_at : (optional : Bool) → StringLiteral → Imported
import_at optional literal = record { path = string_bytes literal.cooked; plain = is_plain literal; optional = optional; token = literal.token }

abbrev pub enabled_imports : Item → List Imported
enabled_imports (items.Import attributes optional relative) = import_at optional relative ∷ []
enabled_imports other = []

-- an item, if it is an import that is enabled
abbrev pub item_imports : Item → List Imported
item_imports i = cond (is_item_enabled i) (enabled_imports i) []
