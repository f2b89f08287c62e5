-- The symbols of a file.
use Rattle.std.specs.Prelude.{ℕ, List, [], ◌∷◌, ◌++◌, Option, None, Some, codes, map, string_bytes}
use Rattle.std.specs.List.{flat_map}
use Rattle.justfile_numbers.specs.declared.number.Number.{Number}
use Rattle.justfile_token.specs.Name.{name_text}
use Rattle.justfile_token.specs.Namepath.{names_in}
use Rattle.justfile_token.specs.declared.name.Name.{Name}
use Rattle.justfile_attribute_set.specs.AttributeSet.{AttributeSet, attributes_of}
use Rattle.justfile_attribute_set.specs.Attributes.{groups_in}
use Rattle.justfile_recipe_header.specs.Header.{parameters_text}
use Rattle.justfile_item.specs.Item.{is_item_enabled}
use Rattle.justfile_item.specs.ItemText.{item_attributes}
use Rattle.justfile_item.specs.Parts.{is_item_private, item_doc, item_kind, item_name}
use Rattle.justfile_item.specs.declared.item.Item.{Item}
use Rattle.justfile_item.specs.declared.item.Item.TheVariants as items
use Rattle.justfile_outline.specs.Shown.{Shown}

-- the name of a function's parameter, after a space
abbrev pub name_part : Name × Number → List ℕ
name_part p = codes " " ++ name_text p.0

-- the parameters of a recipe as they are printed, or the names of those of a function, each after a space; other items have none
abbrev pub item_parameters : Item → List ℕ
item_parameters (items.Function f) = flat_map name_part f.parameters.items
item_parameters (items.Recipe r) = parameters_text r.parameters.items
item_parameters _ = []

-- the texts of the names of the groups among attributes, in order
abbrev pub set_groups : AttributeSet → List (List ℕ)
set_groups set = map (λ group. string_bytes group.cooked) (groups_in (attributes_of set))

abbrev pub groups_of : Option AttributeSet → List (List ℕ)
groups_of None = []
groups_of (Some set) = set_groups set

-- the names of the path of the recipe that an alias refers to
abbrev pub item_target : Item → Option (List Name)
item_target (items.Alias a) = Some (names_in a.target)
item_target _ = None

-- what is shown of an item with this name
abbrev pub symbol_of : Item → Name → Shown
symbol_of i name = record {
  kind = item_kind i;
  name = name;
  parameters = item_parameters i;
  doc = item_doc i;
  groups = groups_of (item_attributes i);
  target = item_target i;
  is_private = is_item_private i;
  is_enabled = is_item_enabled i;
}

abbrev pub symbols_with : Option Name → Item → List Shown
symbols_with None i = []
symbols_with (Some name) i = symbol_of i name ∷ []

-- what is shown of an item: nothing if it has no name
abbrev pub item_symbols : Item → List Shown
item_symbols i = symbols_with (item_name i) i
