-- The reader of the items in a table, whose trees hold all that the parser's trees hold.
use Rattle.std.specs.Prelude.{ℕ, Bool, false, List, [], ◌∷◌, Option, Ok, Err, codes, nat_eq}
use Rattle.std.specs.List.{starts_with}
use Rattle.justfile_token.specs.Token.{lexeme_of}
use Rattle.justfile_token.specs.declared.token.Token.{Token}
use Rattle.justfile_model.specs.Trees.Tree as tree
use Rattle.justfile_model.specs.Trees.Tree.{BodyLine, Entry, Fragment, OrderedItem, commented_entry}
use Rattle.justfile_vocabulary.specs.declared.item_kind.ItemKind.{ItemKind}
use Rattle.justfile_vocabulary.specs.declared.token_kind.TokenKind.{TokenKind}
use Rattle.justfile_model.specs.Readers.AttributeReader as attributes
use Rattle.justfile_model.specs.Readers.AttributeReader.{AttributeLeaves}
use Rattle.justfile_model.specs.Trees.ContentKeys.{entry_cmp}
use Rattle.justfile_model.specs.Lists.Order.{in_order}
use Rattle.justfile_model.specs.Readers.Reader as files
use Rattle.justfile_model.specs.Readers.ReaderState as reading
use Rattle.justfile_model.specs.Readers.ReaderState.{Counters, refused}
use Rattle.justfile_expression.specs.LeafViews.{views_leaves}
use Rattle.justfile_expression.specs.LeafTree.{Leaf, Text}
use Rattle.justfile_parse_expression.specs.Significant.{TableToken}
use Rattle.justfile_parse_attribute.specs.AttributeTable.{Entries}
pub use Rattle.justfile_parse_item_parts.specs.BodyTable.{CommentedBody, body, body_after, body_line, fragment, line_rest, lines, optional_body}
use Rattle.justfile_parse_expression.specs.TableReader.{Read, Run, State, leaves}

-- whether the line begins with a text that begins with `#!`
abbrev pub is_shebang : BodyLine Leaf Token ℕ → Bool
is_shebang (tree.Line number (tree.Text (Text token) ∷ fragments)) = starts_with nat_eq (lexeme_of token) (codes "#!")
is_shebang line = false

-- whether the first line begins with a text that begins with `#!`
abbrev pub has_shebang : List (BodyLine Leaf Token ℕ) → Bool
has_shebang [] = false
has_shebang (line ∷ lines) = is_shebang line

-- what a tree holds of a construct's attributes: their meaning, in the order of their content
abbrev pub attribute_leaves : AttributeLeaves Run Leaf Token Entries (Entry Leaf Token)
attribute_leaves = record {
  view = λ run. views_leaves;
  keep = λ written entry. entry;
  entry = λ entry. entry;
  comment = commented_entry;
  attributes = λ run entries. in_order (entry_cmp views_leaves) entries;
}

abbrev pub next_recipe_number : Counters → State → Read (ℕ × Counters)
next_recipe_number = files.next_recipe_number leaves

-- an item, and the counters after it
abbrev pub ReadItem : Type 0
ReadItem = Read (OrderedItem Leaf Token ℕ × Counters)

-- items, and the counters after them
abbrev pub ReadItems : Type 0
ReadItems = Read (List (OrderedItem Leaf Token ℕ) × Counters)

-- whether the next token is of this kind; takes it if it is
abbrev pub accepted : TokenKind → State → Bool × State
accepted = reading.accepted leaves

abbrev pub alias : Entries → Counters → State → ReadItem
alias = files.alias leaves attribute_leaves

abbrev pub assignment : (eager export : Bool) → Entries → Counters → State → ReadItem
assignment = files.assignment leaves attribute_leaves

abbrev pub function : Entries → Counters → State → ReadItem
function = files.function leaves attribute_leaves

abbrev pub imported : (optional : Bool) → Entries → Counters → State → ReadItem
imported = files.imported leaves attribute_leaves

abbrev pub import : Entries → Counters → State → ReadItem
import = files.import leaves attribute_leaves

abbrev pub named_module : (optional : Bool) → Entries → Counters → State → ReadItem
named_module = files.named_module leaves attribute_leaves

abbrev pub any_module : Entries → Counters → State → ReadItem
any_module = files.any_module leaves attribute_leaves

abbrev pub setting : Entries → Counters → State → ReadItem
setting = files.setting leaves attribute_leaves

abbrev pub unexport : Entries → Counters → State → ReadItem
unexport = files.unexport leaves attribute_leaves

abbrev pub recipe : (quiet : Bool) → Entries → Counters → State → ReadItem
recipe = files.recipe leaves attribute_leaves

abbrev pub any_recipe : Entries → Counters → State → ReadItem
any_recipe = files.any_recipe leaves attribute_leaves

-- the attributes before a construct
abbrev pub item_attributes : State → Read Entries
item_attributes = files.attributes leaves attribute_leaves

-- the entries in the order of their content
abbrev pub in_content_order : Entries → Entries
in_content_order entries = in_order (entry_cmp views_leaves) entries

-- the lines of attributes before a construct
abbrev pub lines_of_attributes : State → Read Entries
lines_of_attributes = attributes.attribute_lines leaves attribute_leaves.view attribute_leaves.keep attribute_leaves.entry attribute_leaves.comment

-- refuses attributes before a blank line or a comment, at their opening bracket
abbrev pub before_item : (opener : TableToken) → Entries × State → Read Entries
before_item = files.before_item leaves attribute_leaves

-- whether a blank line or a comment comes next
abbrev pub stands_alone : State → Bool
stands_alone = files.stands_alone leaves attribute_leaves

-- checks that an item of this kind with this name may have these attributes
abbrev pub check_allowed : ItemKind → Entries → TableToken → State → Read (Unit {0})
check_allowed = files.check_allowed leaves attribute_leaves

-- a construct without a keyword, after its attributes
abbrev pub without_keyword : Entries → Counters → State → ReadItem
without_keyword = files.without_keyword leaves attribute_leaves

-- a construct after its attributes
abbrev pub content : Entries → Counters → State → ReadItem
content = files.content leaves attribute_leaves

abbrev pub construct : Counters → State → ReadItem
construct = files.construct leaves attribute_leaves

abbrev pub any_item : Counters → State → ReadItem
any_item = files.any_item leaves attribute_leaves

abbrev pub line_end : State → Read (List (OrderedItem Leaf Token ℕ))
line_end = files.line_end leaves attribute_leaves

abbrev pub after_item : State → Read (List (OrderedItem Leaf Token ℕ))
after_item = files.after_item leaves attribute_leaves

abbrev pub item_end : (has_body : Bool) → State → Read (List (OrderedItem Leaf Token ℕ))
item_end = files.item_end leaves attribute_leaves

abbrev pub line : Counters → State → ReadItems
line = files.line leaves attribute_leaves

abbrev pub items : Counters → State → ReadItems
items = files.items leaves attribute_leaves

abbrev pub file : Counters → State → ReadItems
file = files.file leaves attribute_leaves

-- the state after a byte order mark, if one comes first
abbrev pub after_byte_order_mark : State → State
after_byte_order_mark = files.after_byte_order_mark leaves attribute_leaves

-- refuses tokens after the end of the file
abbrev pub nothing_by : State → List TableToken → Read (Unit {0})
nothing_by s [] = Ok (tt, s)
nothing_by s (t ∷ ts) = Err (refused reading.Unexpected s)

unfoldable pub read_nothing : State → Read (Unit {0})
read_nothing s = nothing_by s s.left
