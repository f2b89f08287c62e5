-- The items that are enabled on the current system, which is Linux, and the indentation that a file sets.
use Rattle.std.specs.Prelude.{Bool, ◌||◌, not, List, [], ◌∷◌, Option, Some, None, if◌then◌else◌}
use Rattle.std.specs.List.{list_any}
use Rattle.justfile_vocabulary.specs.AttributeKind.{is_enabler_kind}
use Rattle.justfile_vocabulary.specs.declared.attribute_kind.AttributeKind.TheVariants.{Linux, Unix}
use Rattle.justfile_vocabulary.specs.declared.keyword.Keyword.{Keyword}
use Rattle.justfile_vocabulary.specs.declared.keyword.Keyword.TheVariants as words
use Rattle.justfile_model.specs.Trees.ContentKeys.{has_attribute, kind_of_attribute}
use Rattle.justfile_model.specs.Meanings.RecipeRules.{or_else}
use Rattle.justfile_model.specs.Trees.Tree.{Content, Comment, Construct, Entry, Newline, OrderedItem, Setting, SettingValue, StringLiteral, Value}

-- no attribute names a system, or one names the current system
abbrev pub is_enabled : {A B : Type 0} → List (Entry A B) → Bool
is_enabled entries = not (list_any (λ (e : Entry _ _). is_enabler_kind (kind_of_attribute e.attribute)) entries) || has_attribute Linux entries || has_attribute Unix entries

-- the literal of the setting `indentation`
abbrev pub indentation_literal : {A B : Type 0} → Keyword → SettingValue A B → Option A
indentation_literal words.Indentation (Value (StringLiteral expanded token)) = Some token
indentation_literal keyword value = None

abbrev pub indentation_in : {A B C S : Type 0} → Content A B C S → Option A
indentation_in (Setting parts) = indentation_literal parts.keyword parts.value
indentation_in content = None

-- the literal that sets the indentation of a file: that of the first enabled setting `indentation`
abbrev pub indentation_of : {A B C : Type 0} → List (OrderedItem A B C) → Option A
indentation_of [] = None
indentation_of (Newline ∷ items) = indentation_of items
indentation_of (Comment text ∷ items) = indentation_of items
indentation_of (Construct entries content ∷ items) = or_else (if is_enabled entries then indentation_in content else None) (indentation_of items)
