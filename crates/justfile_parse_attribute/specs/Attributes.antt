-- Attributes and their arguments as the definitions see them, while they are parsed.
use Rattle.std.specs.Prelude.{◌≡◌, ℕ, List, [], ◌++◌, length, map, None}
use Rattle.std.specs.Global.{Box}
use Rattle.std.specs.Option.{option_copied, option_map}
use Rattle.justfile_attribute.specs.Attribute.{leaf_attribute_of}
use Rattle.justfile_attribute.specs.declared.attribute.Attribute.{Attribute}
use Rattle.justfile_token.specs.declared.token.Token.{Token}
use Rattle.justfile_model.specs.Trees.Tree as tree
use Rattle.justfile_model.specs.Trees.Tree.{Argument, Entry}
use Rattle.justfile_parse_attribute.specs.ArgumentKeys.{Given}
use Rattle.justfile_parse_attribute.specs.AttributeTable.{argument_of_key}
use Rattle.justfile_expression.specs.LeafTree.{Leaf, Named, leaf_tree_of}
use Rattle.justfile_expression.specs.declared.expression.Expression.{Expression}
use Rattle.justfile_parse_attribute.specs.declared.arguments.Arguments.{Arguments}
use Rattle.justfile_written.specs.declared.written.Written.{Written}

-- a positional argument, with its first token
abbrev pub positional_of : Token × Box Expression → Argument Leaf Token
positional_of p = tree.Positional p.0 (leaf_tree_of p.1.value)

-- a keyword argument, with its value if it has one
abbrev pub keyed_of : Given → Argument Leaf Token
keyed_of k = argument_of_key (Named k.0.token None) (option_map (λ (e : Box Expression). leaf_tree_of e.value) k.1)

-- the arguments in the order in which they are written: no positional argument follows a keyword argument
unfoldable pub arguments_of : Arguments → List (Argument Leaf Token)
arguments_of a = map positional_of a.positional.items ++ map keyed_of a.keyed.items

-- There is one argument, and it is positional.
pub record IsSingle (a : Arguments) : Type 0 where
  pub one : length a.positional.items ≡ 1
  pub unkeyed : a.keyed.items ≡ []

-- an attribute at its name, with the text of its comment
abbrev pub entry_of_pair : Attribute × Written → Entry Leaf Token
entry_of_pair p = record { name = p.1.name.token; attribute = leaf_attribute_of p.0; comment = option_copied p.1.comment }

abbrev pub entries_of : List (Attribute × Written) → List (Entry Leaf Token)
entries_of = map entry_of_pair
