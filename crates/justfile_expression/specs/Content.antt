-- The contents of leaves, which ignore positions, and the order of expressions by content.
use Rattle.std.specs.declared.cmp.Ordering.{Ordering}
use Rattle.justfile_model.specs.Trees.ContentLeaf as contents
use Rattle.justfile_model.specs.Trees.ContentLeaf.{ContentLeaf, content_cmp}
use Rattle.justfile_model.specs.Trees.Key.{Key, key_cmp, map_key}
use Rattle.justfile_leaves.specs.LeafContent.{literal_content, token_content}
use Rattle.justfile_expression.specs.Leaf.{KeyLeaf, token, literal, operator, number, text, leaf_cmp}
use Rattle.justfile_expression.specs.Order.{key}
use Rattle.justfile_expression.specs.declared.expression.Expression.{Expression}
use Rattle.justfile_expression.specs.declared.leaf_order.LeafOrder.{LeafOrder}
use Rattle.justfile_expression.specs.declared.leaf_order.LeafOrder.TheVariants.{Whole, Content}

-- the content of a leaf; the numbers of variables are ignored
abbrev pub content_of : KeyLeaf → ContentLeaf
content_of (token t) = contents.token (token_content t)
content_of (literal l) = contents.literal (literal_content l)
content_of (operator o) = contents.operator o
content_of (number n) = contents.unseen
content_of (text bytes) = contents.text bytes

abbrev pub leaf_content_cmp : KeyLeaf → KeyLeaf → Ordering
leaf_content_cmp a b = content_cmp (content_of a) (content_of b)

abbrev pub content_order : Key KeyLeaf → Key KeyLeaf → Ordering
content_order = key_cmp leaf_content_cmp

-- the content of an expression: its key without positions and numbers of variables
abbrev pub content_key : Expression → Key ContentLeaf
content_key e = map_key content_of (key e)

-- the order of expressions by content
abbrev pub expression_content_cmp : Expression → Expression → Ordering
expression_content_cmp a b = content_order (key a) (key b)

-- the order of leaves: by all fields, or by content
unfoldable pub leaf_order : LeafOrder → KeyLeaf → KeyLeaf → Ordering
leaf_order Whole = leaf_cmp
leaf_order Content = leaf_content_cmp
