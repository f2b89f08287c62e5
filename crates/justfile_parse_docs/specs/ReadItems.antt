-- What the functions that parse items with their docs return.
use Rattle.std.specs.Prelude.{◌≡◌, List, Result, Ok, Err, map}
use Rattle.std.specs.Global.{Vec}
use Rattle.justfile_item.specs.declared.item.Item.{Item}
use Rattle.justfile_model.specs.Grammars.Docs.{Nothing, documented}
use Rattle.justfile_model.specs.Grammars.Files.{sets_doc}
use Rattle.justfile_model.specs.Readers.ReaderState.{NoNumber}
use Rattle.justfile_numbers.specs.declared.numerator.Numerator.{Numerator}
use Rattle.justfile_parse_base.specs.Counting.{counters_of}
use Rattle.justfile_parse_base.specs.ParseErrors.{IsParseError}
use Rattle.justfile_parse_base.specs.declared.parse_error.ParseError.{ParseError}
use Rattle.justfile_parse_docs.specs.Docs.{with_items}
use Rattle.justfile_parse_expression.specs.TableReader.{State}
use Rattle.justfile_parse_item.specs.ItemTable.{ReadItems}
use Rattle.justfile_parse_item.specs.Tree.{item_tree}

-- The items are those that the definitions read, each with its doc.
pub record IsDocumented (items : List Item) (n : Numerator) (s : State) (found : ReadItems) : Type 0 where
  pub plain : List Item
  pub read : found ≡ Ok ((map item_tree plain, counters_of n), s)
  pub documents : map item_tree items ≡ documented sets_doc Nothing (map item_tree plain)

-- What was returned is what the definitions read, each item with its doc, and so are the state and the counters after it; an error is theirs.
abbrev pub ReadsDocumented : Result (Vec Item) ParseError → Numerator → State → ReadItems → Type 0
ReadsDocumented (Ok items) n s found = IsDocumented items.items n s found
ReadsDocumented (Err error) n s found = IsParseError error s (found ≡ Err (NoNumber (counters_of n))) found

-- The new items are the old ones, and after them those that the definitions read, each with its doc.
pub record IsDocumentedLine (old new : List Item) (n : Numerator) (s : State) (found : ReadItems) : Type 0 where
  pub plain : List Item
  pub read : found ≡ Ok ((map item_tree plain, counters_of n), s)
  pub documents : map item_tree new ≡ with_items (map item_tree old) (map item_tree plain)

-- The same for a line, whose items were appended to others.
abbrev pub ReadsLine : Result (Unit {0}) ParseError → (old new : List Item) → Numerator → State → ReadItems → Type 0
ReadsLine (Ok done) old new n s found = IsDocumentedLine old new n s found
ReadsLine (Err error) old new n s found = IsParseError error s (found ≡ Err (NoNumber (counters_of n))) found
