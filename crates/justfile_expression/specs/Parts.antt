-- The parts of an expression: the expressions in it, its literal, and the token that it begins with.
use Rattle.std.specs.Prelude.{List, map, Option, Some, None}
use Rattle.justfile_token.specs.declared.string_literal.StringLiteral as literals
use Rattle.justfile_token.specs.declared.token.Token.{Token}
use Rattle.justfile_expression.specs.Children.{children}
use Rattle.justfile_expression.specs.RightSides.{IsLessDeep}
use Rattle.justfile_expression.specs.declared.expression.Expression.{Expression, And', Assert', Backtick, Call', Comparison', Concatenation', Conditional', FormatString', Group', Join', List', ListConcatenation', Not', Or', StringLiteral, Variable, Held-Expression-Assert-1 as OptionalExpression, None', Some'}
use Rattle.justfile_expression.specs.declared.parts.Start.{Start}
use Rattle.justfile_expression.specs.declared.parts.Start.TheVariants as starts

-- the expressions directly in an expression, in the order in which they are written
abbrev pub parts_of : Expression → List Expression
parts_of e = map (λ c. c.0) (children e)

-- the literal that an expression is
abbrev pub string_literal_of : Expression → Option literals.StringLiteral
string_literal_of (StringLiteral literal) = Some literal
string_literal_of _ = None

abbrev mutual
  -- the first token of an expression, of those that the tree keeps
  pub first_token : Expression → Token
  first_token (And' p lhs q rhs) = first_token lhs
  first_token (Assert' p condition message name) = name.token
  first_token (Backtick contents token) = token
  first_token (Call' name n arguments) = name.token
  first_token (Comparison' p lhs operator q rhs token) = first_token lhs
  first_token (Concatenation' p lhs operator q rhs) = first_token lhs
  first_token (Conditional' p condition q branch otherwise) = first_token condition
  first_token (FormatString' start n expressions) = start.token
  first_token (Group' p contents) = first_token contents
  first_token (Join' lhs operator q rhs) = first_of_join lhs operator
  first_token (List' n elements opener) = opener
  first_token (ListConcatenation' p lhs operator q rhs) = first_token lhs
  first_token (Not' p operand) = first_token operand
  first_token (Or' p lhs q rhs) = first_token lhs
  first_token (StringLiteral literal) = literal.token
  first_token (Variable name number) = name.token

  -- that of the left side of a join, or else the operator
  pub first_of_join : (lhs : OptionalExpression) (operator : Token) → Token
  first_of_join None' operator = operator
  first_of_join (Some' p lhs) operator = first_token lhs

-- the token, or the first token of the expression
abbrev pub token_of : Start → Token
token_of (starts.Token token) = token
token_of (starts.Expression e) = first_token e.now

-- an expression with a smaller size than `whole`, or a token
abbrev pub IsWithin : (whole : Expression) → Start → Type 0
IsWithin whole (starts.Token token) = Unit {0}
IsWithin whole (starts.Expression e) = IsLessDeep whole e
