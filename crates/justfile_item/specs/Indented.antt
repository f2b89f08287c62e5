-- The indentation that a file sets.
use Rattle.std.specs.Prelude.{List, [], ◌∷◌, Option, None, Some, if◌then◌else◌}
use Rattle.justfile_vocabulary.specs.declared.indentation.Indentation.{Indentation}
use Rattle.justfile_token.specs.declared.string_literal.StringLiteral.{StringLiteral}
use Rattle.justfile_model.specs.Meanings.RecipeRules.{or_else}
use Rattle.justfile_attribute_set.specs.AttributeSet.{attributes_of}
use Rattle.justfile_attribute_set.specs.Attributes.{are_enabled}
use Rattle.justfile_setting.specs.Setting.{HasDerivedSettingFields}
use Rattle.justfile_setting.specs.declared.setting.Setting.{Setting}
use Rattle.justfile_setting.specs.declared.setting.Setting.TheVariants as settings
use Rattle.justfile_item.specs.declared.item.Item.{Item}
use Rattle.justfile_item.specs.declared.item.Item.TheVariants as items
use Rattle.justfile_item.specs.declared.set.Set.{Set}

-- the literal and the indentation of a setting `indentation`
abbrev pub indentation_set : Setting → Option (StringLiteral × Indentation)
indentation_set (settings.Indentation literal indentation) = Some (literal, indentation)
indentation_set _ = None

-- the same for a setting with attributes, if they enable it on this system
abbrev pub set_indentation : Set → Option (StringLiteral × Indentation)
set_indentation s = if are_enabled (attributes_of s.attributes) then indentation_set s.value else None

-- the same for an item
abbrev pub item_indentation : Item → Option (StringLiteral × Indentation)
item_indentation (items.Setting s) = set_indentation s
item_indentation _ = None

-- the same for the first of these items that sets an indentation
abbrev pub items_indentation : List Item → Option (StringLiteral × Indentation)
items_indentation [] = None
items_indentation (i ∷ items) = or_else (item_indentation i) (items_indentation items)

-- for a setting, its derived fields are right; nothing for other items
abbrev pub HasDerivedFieldsOfSetting : Item → Type 0
HasDerivedFieldsOfSetting (items.Setting s) = HasDerivedSettingFields s.value
HasDerivedFieldsOfSetting _ = Unit {0}
