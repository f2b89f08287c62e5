-- The docs of recipes and modules, taken from the comments before them, from the first item to the last.
use Rattle.std.specs.Prelude.{◌≡◌, ℕ, ◌<◌, ◌≤◌, Bool, true, false, ◌-◌, List, [], ◌∷◌, ◌++◌, drop, length, map, take, Option, Some, None, reverse, vec_len}
use Rattle.std.specs.Global.{Vec}
use Rattle.justfile_token.specs.declared.token.Token.{Token}
use Rattle.justfile_item.specs.declared.item.Item.{Item}
use Rattle.justfile_model.specs.Grammars.Docs.{LineEnd, Nothing, doc_in, item_with_doc, can_take_doc}
use Rattle.justfile_model.specs.Grammars.Files.{sets_doc}
use Rattle.justfile_model.specs.Trees.Tree as tree
use Rattle.justfile_model.specs.Trees.Tree.{OrderedItem}
use Rattle.justfile_parse_item.specs.DerivedFields.{HaveDerivedFields}
use Rattle.justfile_parse_item.specs.Tree.{item_tree}
use Rattle.justfile_expression.specs.LeafTree.{Leaf}

abbrev pub LeafItem : Type 0
LeafItem = OrderedItem Leaf Token ℕ

abbrev pub is_line_end : LeafItem → Bool
is_line_end tree.Newline = true
is_line_end i = false

abbrev pub comment_of : LeafItem → Option (List ℕ)
comment_of (tree.Comment text) = Some text
comment_of i = None

-- whether the item can have a doc, and neither an attribute nor a comment has set it yet
abbrev pub item_can_take_doc : LeafItem → Bool
item_can_take_doc (tree.Construct attributes content) = can_take_doc sets_doc attributes content
item_can_take_doc i = false

-- the doc that these items begin with, if they are in reverse order
abbrev pub doc_first : List LeafItem → Option (List ℕ)
doc_first (tree.Newline ∷ tree.Comment text ∷ []) = doc_in Nothing text
doc_first (tree.Newline ∷ tree.Comment text ∷ tree.Newline ∷ others) = doc_in LineEnd text
doc_first others = None

-- the doc at the end of these items: a comment and one line end, at the front of the file or after a line end
abbrev pub doc_before : List LeafItem → Option (List ℕ)
doc_before before = doc_first (reverse before)

-- appends an item, which replaces the comment before it if that is its doc
abbrev pub with_doc : List LeafItem → LeafItem → Option LeafItem → List LeafItem
with_doc before i None = before ++ i ∷ []
with_doc before i (Some documented) = take (length before - 2) before ++ documented ∷ []

abbrev pub doc_taken : LeafItem → Option (List ℕ) → Option LeafItem
doc_taken i None = None
doc_taken i (Some doc) = item_with_doc sets_doc doc i

abbrev pub with_item : List LeafItem → LeafItem → List LeafItem
with_item before i = with_doc before i (doc_taken i (doc_before before))

-- the items, each with its doc, after those in `before`, which are done
abbrev pub with_items : (before items : List LeafItem) → List LeafItem
with_items before [] = before
with_items before (i ∷ items) = with_items (with_item before i) items

-- The items that result if the first `kept` are done and those from `index` on aren't yet. The ones between them have been moved or
-- dropped.
abbrev pub taken_docs : (kept index : ℕ) → List Item → List LeafItem
taken_docs kept index items = with_items (map item_tree (take kept items)) (map item_tree (drop index items))

-- The first `kept` items are done, and there is one at `index`, which isn't yet. The derived fields of all are right.
pub record IsNextItem (kept index : ℕ) (items : Vec Item) : Type 0 where
  pub order : kept ≤ index
  pub within : index < vec_len items
  pub fields : HaveDerivedFields items.items

-- There are as many items as before, and the derived fields of all are right.
pub record IsWhole (old new : Vec Item) : Type 0 where
  pub len : vec_len new ≡ vec_len old
  pub fields : HaveDerivedFields new.items
