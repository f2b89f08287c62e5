-- What is shown of the items of a file.
use Rattle.std.specs.Prelude.{ℕ, ◌+◌, min, List, [], ◌∷◌, Option, None, Some, false, string_bytes}
use Rattle.std.specs.List.{flat_map}
use Rattle.justfile_vocabulary.specs.declared.item_kind.ItemKind.TheVariants as kinds
use Rattle.justfile_token.specs.Name.{name_text}
use Rattle.justfile_token.specs.declared.name.Name.{Name}
use Rattle.justfile_token.specs.declared.string_literal.StringLiteral.{StringLiteral}
use Rattle.justfile_token.specs.declared.token.Token.{Token}
use Rattle.justfile_item.specs.Parts.{is_item_private, item_kind, item_name}
use Rattle.justfile_item.specs.declared.item.Item.{Item}
use Rattle.justfile_item.specs.declared.item.Item.TheVariants as items
use Rattle.justfile_ast.specs.declared.ast.Ast.{Ast}
use Rattle.justfile_chunks.specs.Spans.{span}
use Rattle.justfile_chunks.specs.declared.span.Span.{Span}
use Rattle.justfile_survey.specs.Seen.{Seen}

-- where a token is in a text of this length, if its offset counts from `base`: as much of it as lies in the text
abbrev pub place_in : (length base : ℕ) → Token → Span
place_in length base t = span (min (base + t.offset) length) (min (base + t.offset + t.length) length)

module _ (length base : ℕ) where
  -- what is shown of an item with this name
  abbrev pub seen_of : Item → Name → Seen
  seen_of i name = record { kind = item_kind i; name = name_text name; is_private = is_item_private i; place = place_in length base name.token }

  abbrev pub seen_with : Option Name → Item → List Seen
  seen_with None i = []
  seen_with (Some name) i = seen_of i name ∷ []

  -- what is shown of an item, if it has a name
  abbrev pub named_seen : Item → List Seen
  named_seen i = seen_with (item_name i) i

  -- what is shown of the import of the file at a path: the path as its name
  abbrev pub import_seen : StringLiteral → List Seen
  import_seen path = record { kind = kinds.Import; name = string_bytes path.cooked; is_private = false; place = place_in length base path.token } ∷ []

  -- what is shown of an item: nothing, if it has no name and is no import
  abbrev pub item_seen : Item → List Seen
  item_seen (items.Import attributes optional relative) = import_seen relative
  item_seen i = named_seen i

  -- what is shown of the items of a file, in order
  abbrev pub file_seen : Ast → List Seen
  file_seen ast = flat_map item_seen ast.items.items
