-- The parts of items as the definitions see them.
use Rattle.std.specs.Prelude.{List, map, Option, Some, None}
use Rattle.std.specs.Option.{option_map}
use Rattle.std.specs.Global.{Box}
use Rattle.justfile_attribute.specs.declared.interpreter.Interpreter.{Interpreter}
use Rattle.justfile_attribute_rules.specs.Made.{quoted_leaf}
use Rattle.justfile_token.specs.declared.name.Name.{Name}
use Rattle.justfile_numbers.specs.declared.number.Number.{Number}
use Rattle.justfile_token.specs.declared.string_literal.StringLiteral.{StringLiteral}
use Rattle.justfile_model.specs.Trees.Tree as tree
use Rattle.justfile_model.specs.Trees.Tree.{Quoted}
use Rattle.justfile_parse_expression.specs.Significant.{TableToken}
use Rattle.justfile_parse_item_parts.specs.PartTable.{LeafValue}
use Rattle.justfile_expression.specs.LeafTree.{Leaf, Named, leaf_tree_of, trees_of}
use Rattle.justfile_expression.specs.declared.expression.Expression.{Expression}

-- the path of a file, with the token of its literal
abbrev pub file_path_tree : TableToken × StringLiteral → TableToken × Quoted Leaf
file_path_tree path = (path.0, quoted_leaf path.1)

abbrev pub optional_path_tree : Option StringLiteral → Option (Quoted Leaf)
optional_path_tree = option_map quoted_leaf

-- the name of a function's parameter, with its number
abbrev pub numbered_leaf : Name × Number → Leaf
numbered_leaf p = Named p.0.token (Some p.1)

abbrev pub numbered_leaves : List (Name × Number) → List Leaf
numbered_leaves = map numbered_leaf

-- a command with its arguments
abbrev pub interpreter_tree : Box (Interpreter Expression) → LeafValue
interpreter_tree i = tree.Interpreter (leaf_tree_of i.value.command) (trees_of i.value.arguments.items)
