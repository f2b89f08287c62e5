-- How an item that was parsed is appended to the items before it.
use Rattle.std.specs.Prelude.{◌≡◌, ℕ, ◌-◌, List, [], ◌∷◌, ◌++◌, Option, Some, None, Result, Ok, Err, length, map}
use Rattle.std.specs.List.{slice_get}
use Rattle.justfile_token.specs.declared.token.Token.{Token}
use Rattle.justfile_item.specs.declared.item.Item.{Item}
use Rattle.justfile_model.specs.Trees.Tree as tree
use Rattle.justfile_model.specs.Trees.Tree.{OrderedItem}
use Rattle.justfile_expression.specs.LeafTree.{Leaf}
use Rattle.justfile_parse_base.specs.declared.parse_error.ParseError.{ParseError}
use Rattle.justfile_parse_base.specs.declared.parse_error.ParseError.TheVariants as errors
use Rattle.justfile_parse_expression.specs.declared.expression_error.ExpressionError.TheVariants as causes
use Rattle.justfile_parse_item.specs.DerivedFields.{KeepsDerivedFields}
use Rattle.justfile_parse_item.specs.Tree.{item_tree}

-- the tree of an item, or of a line end if there is none
abbrev pub tree_or_end : Option Item → OrderedItem Leaf Token ℕ
tree_or_end (Some item) = item_tree item
tree_or_end None = tree.Newline

-- the tree of the last item, or of a line end if there is none
unfoldable pub last_tree : List Item → OrderedItem Leaf Token ℕ
last_tree items = tree_or_end (slice_get items (length items - 1))

-- This item was appended, or memory ran out.
abbrev pub Pushes : Item → (old new : List Item) → Result (Unit {0}) ParseError → Type 0
Pushes item old new (Ok done) = new ≡ old ++ item ∷ []
Pushes item old new (Err error) = error ≡ errors.Expression causes.Memory

-- One item was appended. If the derived fields of the items before it are right, those of all are.
pub record AppendsItem (old new : List Item) : Type 0 where
  pub trees : map item_tree new ≡ map item_tree old ++ last_tree new ∷ []
  pub fields : KeepsDerivedFields old new
