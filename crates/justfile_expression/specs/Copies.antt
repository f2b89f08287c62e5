-- Copies of expressions.
use Rattle.std.specs.Prelude.{◌≡◌, Option, None, Some, string_bytes}
use Rattle.std.specs.Global.{Box}
use Rattle.justfile_token.specs.declared.string_literal.StringLiteral as literals
use Rattle.justfile_token.specs.StringLiteral.{IsSameLiteral}
use Rattle.justfile_expression.specs.declared.expression.Expression.{Expression, And', Assert', Backtick, Call', Comparison', Concatenation', Conditional', FormatString', Group', Join', List', ListConcatenation', Not', Or', StringLiteral, Variable, Held-Expression-Assert-1 as OptionalExpression, None', Some', Row_of-Expression as ExpressionRow, end_of-Expression as row_end, more_of-Expression as row_more, Row_of-Expression-FormatString-1-2 as FormatRow, end_of-Expression-FormatString-1-2 as format_row_end, more_of-Expression-FormatString-1-2 as format_row_more}

abbrev mutual
  -- two expressions of the same case with equal fields, wherever their boxes are in memory
  pub IsSameExpression : (copy original : Expression) → Type 0
  IsSameExpression (And' p lhs q rhs) (And' p' lhs' q' rhs') = IsSameExpression lhs lhs' × IsSameExpression rhs rhs'
  IsSameExpression (Assert' p condition message name) (Assert' p' condition' message' name') = IsSameExpression condition condition' × IsSameOptional message message' × (name ≡ name')
  IsSameExpression (Backtick contents token) (Backtick contents' token') = (string_bytes contents ≡ string_bytes contents') × (token ≡ token')
  IsSameExpression (Call' name m arguments) (Call' name' n arguments') = (name ≡ name') × AreSameExpressions arguments arguments'
  IsSameExpression (Comparison' p lhs operator q rhs token) (Comparison' p' lhs' operator' q' rhs' token') = IsSameExpression lhs lhs' × (operator ≡ operator') × IsSameExpression rhs rhs' × (token ≡ token')
  IsSameExpression (Concatenation' p lhs operator q rhs) (Concatenation' p' lhs' operator' q' rhs') = IsSameExpression lhs lhs' × (operator ≡ operator') × IsSameExpression rhs rhs'
  IsSameExpression (Conditional' p condition q branch otherwise) (Conditional' p' condition' q' branch' otherwise') = IsSameExpression condition condition' × IsSameExpression branch branch' × IsSameOptional otherwise otherwise'
  IsSameExpression (FormatString' start m expressions) (FormatString' start' n expressions') = IsSameLiteral start start' × AreSameParts expressions expressions'
  IsSameExpression (Group' p contents) (Group' p' contents') = IsSameExpression contents contents'
  IsSameExpression (Join' lhs operator q rhs) (Join' lhs' operator' q' rhs') = IsSameOptional lhs lhs' × (operator ≡ operator') × IsSameExpression rhs rhs'
  IsSameExpression (List' m elements opener) (List' n elements' opener') = AreSameExpressions elements elements' × (opener ≡ opener')
  IsSameExpression (ListConcatenation' p lhs operator q rhs) (ListConcatenation' p' lhs' operator' q' rhs') = IsSameExpression lhs lhs' × (operator ≡ operator') × IsSameExpression rhs rhs'
  IsSameExpression (Not' p operand) (Not' p' operand') = IsSameExpression operand operand'
  IsSameExpression (Or' p lhs q rhs) (Or' p' lhs' q' rhs') = IsSameExpression lhs lhs' × IsSameExpression rhs rhs'
  IsSameExpression (StringLiteral copy) (StringLiteral original) = IsSameLiteral copy original
  IsSameExpression (Variable name number) (Variable name' number') = (name ≡ name') × (number ≡ number')
  IsSameExpression _ _ = ⊥

  -- the same for optional expressions
  pub IsSameOptional : (copy original : OptionalExpression) → Type 0
  IsSameOptional None' None' = Unit {0}
  IsSameOptional (Some' p copy) (Some' q original) = IsSameExpression copy original
  IsSameOptional _ _ = ⊥

  pub AreSameExpressions : {m n : _} → (copies : ExpressionRow m) (originals : ExpressionRow n) → Type 0
  AreSameExpressions row_end row_end = Unit {0}
  AreSameExpressions (row_more copy copies) (row_more original originals) = IsSameExpression copy original × AreSameExpressions copies originals
  AreSameExpressions _ _ = ⊥

  pub AreSameParts : {m n : _} → (copies : FormatRow m) (originals : FormatRow n) → Type 0
  AreSameParts format_row_end format_row_end = Unit {0}
  AreSameParts (format_row_more copy part copies) (format_row_more original part' originals) = IsSameExpression copy original × IsSameLiteral part part' × AreSameParts copies originals
  AreSameParts _ _ = ⊥

-- the same for expressions in boxes
abbrev pub IsSameBoxed : (copy original : Box Expression) → Type 0
IsSameBoxed copy original = IsSameExpression copy.value original.value

-- the same for an expression of a format string and the part after it
abbrev pub IsSamePart : (copy original : Expression × literals.StringLiteral) → Type 0
IsSamePart copy original = IsSameExpression copy.0 original.0 × IsSameLiteral copy.1 original.1
