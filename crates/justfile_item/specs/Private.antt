-- Which items lists omit.
use Rattle.std.specs.Prelude.{ℕ, Bool, ◌||◌, ◌==◌, List, slice_index}
use Rattle.justfile_vocabulary.specs.ByteNames as byte
use Rattle.justfile_vocabulary.specs.declared.attribute_kind.AttributeKind.TheVariants as kinds
use Rattle.justfile_token.specs.Token.{lexeme_of}
use Rattle.justfile_token.specs.declared.token.Token.{Token}
use Rattle.justfile_attribute_set.specs.AttributeSet.{AttributeSet, attributes_of}
use Rattle.justfile_attribute_set.specs.Attributes.{has_kind}

-- whether a name is private: whether it begins with `_`
abbrev pub is_private_name : List ℕ → Bool
is_private_name name = slice_index name 0 == byte.underscore

-- whether an item is private: whether its name is, or it has the attribute `private`
abbrev pub is_private_item : (name : Token) → AttributeSet → Bool
is_private_item name set = is_private_name (lexeme_of name) || has_kind kinds.Private (attributes_of set)
