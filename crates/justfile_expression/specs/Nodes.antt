-- The number of nodes of an expression. A child has fewer than its parent.
use Rattle.std.specs.Prelude.{ℕ, ◌+◌}
use Rattle.justfile_expression.specs.declared.expression.Expression.{Expression, And', Assert', Backtick, Call', Comparison', Concatenation', Conditional', FormatString', Group', Join', List', ListConcatenation', Not', Or', StringLiteral, Variable, Held-Expression-Assert-1 as OptionalExpression, None', Some', Row_of-Expression as ExpressionRow, end_of-Expression as row_end, more_of-Expression as row_more, Row_of-Expression-FormatString-1-2 as FormatRow, end_of-Expression-FormatString-1-2 as format_row_end, more_of-Expression-FormatString-1-2 as format_row_more}

abbrev mutual
  pub nodes : Expression → ℕ
  nodes (And' p lhs q rhs) = nodes lhs + nodes rhs + 1
  nodes (Assert' p condition message name) = nodes condition + optional_nodes message + 1
  nodes (Backtick contents token) = 1
  nodes (Call' name n arguments) = row_nodes arguments + 1
  nodes (Comparison' p lhs operator q rhs token) = nodes lhs + nodes rhs + 1
  nodes (Concatenation' p lhs operator q rhs) = nodes lhs + nodes rhs + 1
  nodes (Conditional' p condition q branch otherwise) = nodes condition + nodes branch + optional_nodes otherwise + 1
  nodes (FormatString' first n expressions) = part_nodes expressions + 1
  nodes (Group' p contents) = nodes contents + 1
  nodes (Join' lhs operator q rhs) = optional_nodes lhs + nodes rhs + 1
  nodes (List' n elements opener) = row_nodes elements + 1
  nodes (ListConcatenation' p lhs operator q rhs) = nodes lhs + nodes rhs + 1
  nodes (Not' p operand) = nodes operand + 1
  nodes (Or' p lhs q rhs) = nodes lhs + nodes rhs + 1
  nodes (StringLiteral literal) = 1
  nodes (Variable name number) = 1

  pub optional_nodes : OptionalExpression → ℕ
  optional_nodes None' = 0
  optional_nodes (Some' p e) = nodes e

  pub row_nodes : {n : _} → ExpressionRow n → ℕ
  row_nodes row_end = 0
  row_nodes (row_more e others) = nodes e + row_nodes others

  pub part_nodes : {n : _} → FormatRow n → ℕ
  part_nodes format_row_end = 0
  part_nodes (format_row_more e literal others) = nodes e + part_nodes others
