-- The right sides of expressions, along which they nest without a limit.
use Rattle.std.specs.Prelude.{◌≡◌, ◌<◌, Option, None, Some, List, [], ◌∷◌}
use Rattle.std.specs.Borrow.{Bor}
use Rattle.std.specs.Global.{Box}
use Rattle.justfile_expression.specs.Children.{optional_expression}
use Rattle.justfile_expression.specs.Copies.{IsSameExpression}
use Rattle.justfile_expression.specs.declared.expression.Expression.{Expression, And', Assert', Backtick, Call', Comparison', Concatenation', Conditional', FormatString', Group', Join', List', ListConcatenation', Not', Or', StringLiteral, Variable, size-Expression}

-- the right operand, or the `else` branch of a conditional
abbrev pub right_side : Expression → Option Expression
right_side (And' p lhs q rhs) = Some rhs
right_side (Assert' p condition message name) = None
right_side (Backtick contents token) = None
right_side (Call' name n arguments) = None
right_side (Comparison' p lhs operator q rhs token) = Some rhs
right_side (Concatenation' p lhs operator q rhs) = Some rhs
right_side (Conditional' p condition q branch otherwise) = optional_expression otherwise
right_side (FormatString' first n expressions) = None
right_side (Group' p contents) = None
right_side (Join' lhs operator q rhs) = Some rhs
right_side (List' n elements opener) = None
right_side (ListConcatenation' p lhs operator q rhs) = Some rhs
right_side (Not' p operand) = Some operand
right_side (Or' p lhs q rhs) = Some rhs
right_side (StringLiteral literal) = None
right_side (Variable name number) = None

-- an expression with a smaller size than `whole`
abbrev pub IsLessDeep : (whole : Expression) → Bor Expression → Type 0
IsLessDeep whole e = size-Expression e.now < size-Expression whole

-- Each expression is the right side of the next one in the list, and the last one that of `whole`. `rest` is the right side of the first.
abbrev pub IsChain : List (Bor Expression) → (whole : Expression) → (rest : Option Expression) → Type 0
IsChain [] whole rest = right_side whole ≡ rest
IsChain (e ∷ es) whole rest = (right_side e.now ≡ rest) × IsChain es whole (Some e.now)

-- an optional copy is a copy of this expression
abbrev pub IsCopied : Option (Box Expression) → Option Expression → Type 0
IsCopied None expression = Unit {0}
IsCopied (Some copy) None = Unit {0}
IsCopied (Some copy) (Some expression) = IsSameExpression copy.value expression
