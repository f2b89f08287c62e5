-- What is shown of an item that has a name.
use Rattle.std.specs.Prelude.{ℕ, Bool, List, Option, map, string_bytes}
use Rattle.std.specs.Option.{option_map}
use Rattle.justfile_vocabulary.specs.declared.item_kind.ItemKind.{ItemKind}
use Rattle.justfile_token.specs.Namepath.{names_in}
use Rattle.justfile_token.specs.declared.name.Name.{Name}
use Rattle.justfile_outline.specs.declared.symbol.Symbol.{Symbol}

pub record Shown : Type 0 where
  pub kind : ItemKind
  pub name : Name
  pub parameters : List ℕ
  pub doc : Option (List ℕ)
  pub groups : List (List ℕ)
  pub target : Option (List Name)
  pub is_private : Bool
  pub is_enabled : Bool

-- what a symbol shows
abbrev pub shown : Symbol → Shown
shown s = record {
  kind = s.kind;
  name = s.name;
  parameters = string_bytes s.parameters;
  doc = option_map string_bytes s.doc;
  groups = map string_bytes s.groups.items;
  target = option_map names_in s.target;
  is_private = s.is_private;
  is_enabled = s.is_enabled;
}
