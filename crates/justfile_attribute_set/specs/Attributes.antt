-- The kinds of attributes in a list.
use Rattle.std.specs.Prelude.{Bool, ◌||◌, not, List, Option, Some, None}
use Rattle.std.specs.List.{filter_map, list_any}
use Rattle.justfile_vocabulary.specs.AttributeKind.{is_enabler_kind}
use Rattle.justfile_vocabulary.specs.declared.attribute_kind.AttributeKind.{AttributeKind}
use Rattle.justfile_vocabulary.specs.declared.attribute_kind.AttributeKind.TheVariants as kinds
use Rattle.justfile_token.specs.declared.string_literal.StringLiteral.{StringLiteral}
use Rattle.justfile_model.specs.Meanings.AttributeKinds.{same_attribute}
use Rattle.justfile_model.specs.Trees.ContentKeys.{kind_of_attribute}
use Rattle.justfile_attribute.specs.Attribute.{attribute_of}
use Rattle.justfile_attribute.specs.declared.attribute.Attribute.{Attribute}
use Rattle.justfile_attribute.specs.declared.attribute.Attribute.TheVariants as attributes

unfoldable pub kind_of : Attribute → AttributeKind
kind_of a = kind_of_attribute (attribute_of a)

abbrev pub is_of_kind : AttributeKind → Attribute → Bool
is_of_kind kind a = same_attribute (kind_of a) kind

abbrev pub has_kind : AttributeKind → List Attribute → Bool
has_kind kind given = list_any (is_of_kind kind) given

-- no attribute restricts the item to some systems, or one of them names this system, which is Linux
abbrev pub are_enabled : List Attribute → Bool
are_enabled given = not (list_any (λ a. is_enabler_kind (kind_of a)) given) || has_kind kinds.Linux given || has_kind kinds.Unix given

abbrev pub group_of : Attribute → Option StringLiteral
group_of (attributes.Group name) = Some name
group_of _ = None

-- the names of the groups
abbrev pub groups_in : List Attribute → List StringLiteral
groups_in given = filter_map group_of given
