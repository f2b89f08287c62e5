-- The parameters that attributes `arg` name.
use Rattle.std.specs.Prelude.{◌+◌, ◌-◌, ◌++◌, ℕ, Bool, false, List, [], ◌∷◌, Some, cond, string_bytes}
use Rattle.std.specs.List.{flat_map}
use Rattle.std.specs.Str.{bytes_eq}
use Rattle.justfile_token.specs.StringKind.{delimiter_len, delimiter_text}
use Rattle.justfile_token.specs.Token.{lexeme_of}
use Rattle.justfile_token.specs.declared.string_literal.StringLiteral.{StringLiteral}
use Rattle.justfile_attribute.specs.declared.attribute.Attribute.{Attribute}
use Rattle.justfile_attribute.specs.declared.attribute.Attribute.TheVariants as attributes
use Rattle.justfile_attribute_set.specs.AttributeSet.{written_of}
use Rattle.justfile_attribute_set.specs.Pairs.{Pair}
use Rattle.justfile_item.specs.declared.item.Item.{Item}
use Rattle.justfile_item.specs.declared.item.Item.TheVariants as items
use Rattle.editor_language.specs.declared.mention.Role.TheVariants as roles
use Rattle.justfile_mentions.specs.Noted.{Noted}

-- whether a literal is written as what it means, between its delimiters
abbrev pub is_plain : StringLiteral → Bool
is_plain l = bytes_eq (lexeme_of l.token) (delimiter_text l.kind ++ string_bytes l.cooked ++ delimiter_text l.kind)

module _ (index : ℕ) where
  -- what is to be known of a parameter of the item with an index that a literal names: it is between the delimiters
  abbrev pub noted_in : StringLiteral → Noted
  noted_in l =
      record {
        role = roles.Parameter;
        name = string_bytes l.cooked;
        scope = Some index;
        span = record { start = l.token.offset + delimiter_len l.kind; end = l.token.offset + l.token.length - delimiter_len l.kind };
        defines = false;
      }

  -- the mention by a literal, which is none if an escape or an indentation hides the name
  abbrev pub named_by : StringLiteral → List Noted
  named_by l = cond (is_plain l) (noted_in l ∷ []) []

  -- the mention in an attribute
  abbrev pub named_in : Attribute → List Noted
  named_in (attributes.Arg flag help property long long_key max max_key min min_key multiple name pattern short short_key value) = named_by name
  named_in other = []

  abbrev pub named_of : Pair → List Noted
  named_of p = named_in p.0

  -- the mentions in the attributes of an item; only a recipe has some
  abbrev pub arguments_of : Item → List Noted
  arguments_of (items.Recipe r) = flat_map named_of (written_of r.attributes)
  arguments_of other = []
