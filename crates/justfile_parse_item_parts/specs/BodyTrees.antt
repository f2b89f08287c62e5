-- The trees of lines and of their fragments.
use Rattle.std.specs.Prelude.{ℕ, map}
use Rattle.justfile_expression.specs.LeafTree.{Leaf, Text, leaf_tree_of}
use Rattle.justfile_line.specs.declared.fragment.Fragment as fragment
use Rattle.justfile_line.specs.declared.fragment.Fragment.TheVariants as fragments
use Rattle.justfile_line.specs.declared.line.Line as line
use Rattle.justfile_model.specs.Trees.Tree as tree
use Rattle.justfile_model.specs.Trees.Tree.{BodyLine, Fragment}
use Rattle.justfile_token.specs.declared.token.Token.{Token}

abbrev pub fragment_tree : fragment.Fragment → Fragment Leaf Token
fragment_tree (fragments.Interpolation expression) = tree.Interpolation (leaf_tree_of expression)
fragment_tree (fragments.Text token) = tree.Text (Text token)

abbrev pub line_tree : line.Line → BodyLine Leaf Token ℕ
line_tree line = tree.Line line.number (map fragment_tree line.fragments.items)
