-- The keys of expressions: the case, and then the keys of the fields in declared order.
use Rattle.std.specs.Prelude.{Option, Some, None, string_bytes}
use Rattle.std.specs.Global.{Box}
use Rattle.std.specs.declared.cmp.Ordering.{Ordering}
use Rattle.justfile_token.specs.declared.string_literal.StringLiteral as literals
use Rattle.justfile_model.specs.Trees.ExpressionCases.{case_node}
use Rattle.justfile_model.specs.Trees.Key.{Key, Keys, end, next, sequence, absent_key, present_key, key_cmp}
use Rattle.justfile_model.specs.declared.expression_case.ExpressionCase.TheVariants as cases
use Rattle.justfile_expression.specs.Leaf.{KeyLeaf, leaf_cmp, token_key, literal_key, operator_key, number_key, text_key}
use Rattle.justfile_expression.specs.declared.expression.Expression.{Expression, And', Assert', Backtick, Call', Comparison', Concatenation', Conditional', FormatString', Group', Join', List', ListConcatenation', Not', Or', StringLiteral, Variable, Held-Expression-Assert-1 as OptionalExpression, None', Some', Row_of-Expression as ExpressionRow, end_of-Expression as row_end, more_of-Expression as row_more, Row_of-Expression-FormatString-1-2 as FormatRow, end_of-Expression-FormatString-1-2 as format_row_end, more_of-Expression-FormatString-1-2 as format_row_more}

abbrev mutual
  pub key : Expression → Key KeyLeaf
  key (And' p lhs q rhs) = case_node cases.And (next (key lhs) (next (key rhs) end))
  key (Assert' p condition message name) =
      case_node cases.Assert (next (key condition) (next (optional_key message) (next (token_key name.token) end)))
  key (Backtick contents t) = case_node cases.Backtick (next (text_key (string_bytes contents)) (next (token_key t) end))
  key (Call' name m arguments) = case_node cases.Call (next (token_key name.token) (next (sequence (row_keys arguments)) end))
  key (Comparison' p lhs o q rhs t) = case_node cases.Comparison (next (key lhs) (next (operator_key o) (next (key rhs) (next (token_key t) end))))
  key (Concatenation' p lhs t q rhs) = case_node cases.Concatenation (next (key lhs) (next (token_key t) (next (key rhs) end)))
  key (Conditional' p condition q branch otherwise) =
      case_node cases.Conditional (next (key condition) (next (key branch) (next (optional_key otherwise) end)))
  key (FormatString' start m expressions) = case_node cases.FormatString (next (literal_key start) (next (sequence (row_parts expressions)) end))
  key (Group' p contents) = case_node cases.Group (next (key contents) end)
  key (Join' lhs t q rhs) = case_node cases.Join (next (optional_key lhs) (next (token_key t) (next (key rhs) end)))
  key (List' m elements opener) = case_node cases.List (next (sequence (row_keys elements)) (next (token_key opener) end))
  key (ListConcatenation' p lhs t q rhs) = case_node cases.ListConcatenation (next (key lhs) (next (token_key t) (next (key rhs) end)))
  key (Not' p operand) = case_node cases.Not (next (key operand) end)
  key (Or' p lhs q rhs) = case_node cases.Or (next (key lhs) (next (key rhs) end))
  key (StringLiteral l) = case_node cases.StringLiteral (next (literal_key l) end)
  key (Variable name n) = case_node cases.Variable (next (token_key name.token) (next (number_key n) end))

  -- the key of an optional expression
  pub optional_key : OptionalExpression → Key KeyLeaf
  optional_key None' = absent_key
  optional_key (Some' p e) = present_key (key e)

  pub row_keys : {m : _} → ExpressionRow m → Keys KeyLeaf
  row_keys row_end = end
  row_keys (row_more e others) = next (key e) (row_keys others)

  pub row_parts : {m : _} → FormatRow m → Keys KeyLeaf
  row_parts format_row_end = end
  row_parts (format_row_more e l others) = next (sequence (next (key e) (next (literal_key l) end))) (row_parts others)

-- the key of an expression of a format string and the part after it
abbrev pub part_key : Expression × literals.StringLiteral → Key KeyLeaf
part_key x = sequence (next (key x.0) (next (literal_key x.1) end))

-- the key of an `Option` of a box
abbrev pub option_key : Option (Box Expression) → Key KeyLeaf
option_key None = absent_key
option_key (Some e) = present_key (key e.value)

-- the order of expressions, by their keys
abbrev pub expression_cmp : Expression → Expression → Ordering
expression_cmp a b = key_cmp leaf_cmp (key a) (key b)
