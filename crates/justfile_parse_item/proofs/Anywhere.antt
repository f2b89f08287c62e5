-- What the reader of tables reads from any position corresponds to what the definitions read of the table's tokens.
use Rattle.justfile_token.specs.declared.token.Token.{Token}
use Rattle.justfile_model.specs.Meanings.ReadAttribute.{ReadAttribute}
use Rattle.justfile_model.specs.Trees.Tree.{Entry}
use Rattle.justfile_model.specs.Readers.TreeReader.{token_attributes, token_leaves}
use Rattle.justfile_model.proofs.Relations.Natural as natural
use Rattle.justfile_model.proofs.Relations.Related as a
use Rattle.justfile_model.proofs.Relations.Related.{States}
use Rattle.justfile_parse_expression.specs.TableReader.{Run, State, leaves}
use Rattle.justfile_parse_item.specs.ItemTable.{attribute_leaves}
use Rattle.justfile_expression.specs.LeafTree.{Leaf}
use Rattle.justfile_parse_expression.proofs.Seen.{Relates}
use Rattle.justfile_parse_item.proofs.Seen.{respects, seen}
use Rattle.justfile_parse_item.proofs.SeenAttributes.{IsKept, attributed}
use Rattle.justfile_parse_expression.proofs.Anywhere as table
use Rattle.justfile_parse_expression.proofs.Anywhere.{Any, state_seen}
use Rattle.justfile_parse_item.proofs.Seen.{AreMeant}

module _ (run : Run) where
  abbrev pub rel : Relates
  rel = seen run.conditions run.conditions.limit Any run.file_depth run.import_offsets

  abbrev pub agree : a.Respects rel leaves token_leaves
  agree = respects run.conditions run.conditions.limit Any run.file_depth run.import_offsets

  -- what is kept of attributes
  abbrev pub Keeps : Entry Leaf Token → ReadAttribute → Type 0
  Keeps = IsKept run.conditions run.conditions.limit Any run.file_depth run.import_offsets

  abbrev pub keeps : natural.RespectsAttributes rel leaves token_leaves attribute_leaves token_attributes Keeps
  keeps = attributed run.conditions run.conditions.limit Any run.file_depth run.import_offsets

pub state_alike : (s : State) → States (rel s.run) s (state_seen s)
state_alike s = table.state_alike (AreMeant s.run.conditions s.run.conditions.limit Any s.run.file_depth s.run.import_offsets) s
