-- The views of the code's value of a setting.
use Rattle.justfile_token.specs.declared.token.Token.{Token}
use Rattle.justfile_attribute.specs.Attribute.{literal_leaf}
use Rattle.justfile_model.specs.Lexing.Tok.{Tok}
use Rattle.justfile_model.specs.Trees.Tree as tree
use Rattle.justfile_model.specs.Trees.Tree.{SettingValue}
use Rattle.justfile_expression.specs.Expression.{expr_of, exprs_of, literal_tok}
use Rattle.justfile_expression.specs.LeafTree.{Leaf, leaf_tree_of, trees_of}
use Rattle.justfile_setting.specs.declared.value.Value.{Value}
use Rattle.justfile_setting.specs.declared.value.Value.TheVariants as values

-- the tree of a value
abbrev pub value_seen : Value → SettingValue Tok Tok
value_seen (values.Truth value) = tree.Truth value.now
value_seen (values.Expression e) = tree.Value (expr_of e.now)
value_seen (values.Literal l) = tree.Value (tree.StringLiteral l.now.expand (literal_tok l.now))
value_seen (values.Interpreter i) = tree.Interpreter (expr_of i.now.command) (exprs_of i.now.arguments.items)

-- the same, with all fields of the parser's leaves
abbrev pub leaf_value_seen : Value → SettingValue Leaf Token
leaf_value_seen (values.Truth value) = tree.Truth value.now
leaf_value_seen (values.Expression e) = tree.Value (leaf_tree_of e.now)
leaf_value_seen (values.Literal l) = tree.Value (tree.StringLiteral l.now.expand (literal_leaf l.now))
leaf_value_seen (values.Interpreter i) = tree.Interpreter (leaf_tree_of i.now.command) (trees_of i.now.arguments.items)
