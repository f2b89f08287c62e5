-- The expressions of an item, at every depth.
use Rattle.std.specs.Prelude.{List, [], ◌∷◌, ◌++◌}
use Rattle.std.specs.List.{flat_map}
use Rattle.justfile_expression.specs.declared.expression.Expression.{Expression, And', Assert', Backtick, Call', Comparison', Concatenation', Conditional', FormatString', Group', Join', List', ListConcatenation', Not', Or', StringLiteral, Variable, Held-Expression-Assert-1 as OptionalExpression, None', Some', Row_of-Expression as ExpressionRow, end_of-Expression as row_end, more_of-Expression as row_more, Row_of-Expression-FormatString-1-2 as FormatRow, end_of-Expression-FormatString-1-2 as format_row_end, more_of-Expression-FormatString-1-2 as format_row_more}
use Rattle.justfile_item.specs.Expressions.{item_expressions}
use Rattle.justfile_item.specs.declared.item.Item.{Item}

abbrev mutual
  -- the expressions in an expression, at every depth, each before its parts, and these in the order in which they are written
  pub inner : Expression → List Expression
  inner (And' p lhs q rhs) = lhs ∷ inner lhs ++ rhs ∷ inner rhs
  inner (Assert' p condition message name) = condition ∷ inner condition ++ optional_inner message
  inner (Backtick contents token) = []
  inner (Call' name n arguments) = row_inner arguments
  inner (Comparison' p lhs operator q rhs token) = lhs ∷ inner lhs ++ rhs ∷ inner rhs
  inner (Concatenation' p lhs operator q rhs) = lhs ∷ inner lhs ++ rhs ∷ inner rhs
  inner (Conditional' p condition q branch otherwise) = condition ∷ inner condition ++ (branch ∷ inner branch ++ optional_inner otherwise)
  inner (FormatString' first n expressions) = part_inner expressions
  inner (Group' p contents) = contents ∷ inner contents
  inner (Join' lhs operator q rhs) = optional_inner lhs ++ rhs ∷ inner rhs
  inner (List' n elements opener) = row_inner elements
  inner (ListConcatenation' p lhs operator q rhs) = lhs ∷ inner lhs ++ rhs ∷ inner rhs
  inner (Not' p operand) = operand ∷ inner operand
  inner (Or' p lhs q rhs) = lhs ∷ inner lhs ++ rhs ∷ inner rhs
  inner (StringLiteral literal) = []
  inner (Variable name number) = []

  pub optional_inner : OptionalExpression → List Expression
  optional_inner None' = []
  optional_inner (Some' p e) = e ∷ inner e

  pub row_inner : {n : _} → ExpressionRow n → List Expression
  row_inner row_end = []
  row_inner (row_more e others) = e ∷ inner e ++ row_inner others

  pub part_inner : {n : _} → FormatRow n → List Expression
  part_inner format_row_end = []
  part_inner (format_row_more e literal others) = e ∷ inner e ++ part_inner others

-- an expression, and then those in it
abbrev pub with_inner : Expression → List Expression
with_inner e = e ∷ inner e

-- the expressions that an item has directly, each followed by those in it
abbrev pub all_expressions : Item → List Expression
all_expressions i = flat_map with_inner (item_expressions i)
