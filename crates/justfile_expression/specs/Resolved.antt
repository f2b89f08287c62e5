-- The numbers of variables, and expressions after resolution.
use Rattle.std.specs.Prelude.{◌≡◌, ℕ, List, Option, None, Some}
use Rattle.std.specs.Global.{Box}
use Rattle.std.specs.HashMap.{HashMap, get_by}
use Rattle.std.specs.Option.{option_or}
use Rattle.std.specs.Str.{bytes_eq}
use denote.Ref.{Bor}
use Rattle.justfile_numbers.specs.declared.number.Number.{Number}
use Rattle.justfile_token.specs.Name.{name_text}
use Rattle.justfile_token.specs.declared.string_literal.StringLiteral as literals
use Rattle.justfile_expression.specs.declared.expression.Expression.{Expression, And', Assert', Backtick, Call', Comparison', Concatenation', Conditional', FormatString', Group', Join', List', ListConcatenation', Not', Or', StringLiteral, Variable, Held-Expression-Assert-1 as OptionalExpression, None', Some', Row_of-Expression as ExpressionRow, end_of-Expression as row_end, more_of-Expression as row_more, Row_of-Expression-FormatString-1-2 as FormatRow, end_of-Expression-FormatString-1-2 as format_row_end, more_of-Expression-FormatString-1-2 as format_row_more}
use Rattle.justfile_expression.specs.declared.resolve.Numbers.{Numbers}

-- the number of a name in a map
abbrev pub number_at : {S : Type 0} → HashMap (Bor (List ℕ)) Number S → (name : List ℕ) → Option Number
number_at numbers name = get_by (λ k. bytes_eq name k.now) numbers

-- the number of a name: from the context, or else from the bindings, or else none
abbrev pub number_of : {S : Type 0} → (context : Option (Bor (HashMap (Bor (List ℕ)) Number S))) (bindings : HashMap (Bor (List ℕ)) Number S) → (name : List ℕ) → Option Number
number_of None bindings name = number_at bindings name
number_of (Some context) bindings name = option_or (number_at context.now name) (number_at bindings name)

-- the same for the code's `Numbers`
unfoldable pub numbers_of : Numbers → (name : List ℕ) → Option Number
numbers_of numbers name = number_of numbers.context numbers.bindings.now name

module _ (numbers : (name : List ℕ) → Option Number) where
  abbrev mutual
    -- an expression whose variables have these numbers, and which otherwise is the original
    pub IsResolved : (resolved original : Expression) → Type 0
    IsResolved (And' p lhs q rhs) (And' p' lhs' q' rhs') = IsResolved lhs lhs' × IsResolved rhs rhs'
    IsResolved (Assert' p condition message name) (Assert' p' condition' message' name') = IsResolved condition condition' × IsResolvedOptional message message' × (name ≡ name')
    IsResolved (Backtick contents token) (Backtick contents' token') = (contents ≡ contents') × (token ≡ token')
    IsResolved (Call' name m arguments) (Call' name' n arguments') = (name ≡ name') × AreResolved arguments arguments'
    IsResolved (Comparison' p lhs operator q rhs token) (Comparison' p' lhs' operator' q' rhs' token') = IsResolved lhs lhs' × (operator ≡ operator') × IsResolved rhs rhs' × (token ≡ token')
    IsResolved (Concatenation' p lhs operator q rhs) (Concatenation' p' lhs' operator' q' rhs') = IsResolved lhs lhs' × (operator ≡ operator') × IsResolved rhs rhs'
    IsResolved (Conditional' p condition q branch otherwise) (Conditional' p' condition' q' branch' otherwise') = IsResolved condition condition' × IsResolved branch branch' × IsResolvedOptional otherwise otherwise'
    IsResolved (FormatString' start m expressions) (FormatString' start' n expressions') = (start ≡ start') × AreResolvedParts expressions expressions'
    IsResolved (Group' p contents) (Group' p' contents') = IsResolved contents contents'
    IsResolved (Join' lhs operator q rhs) (Join' lhs' operator' q' rhs') = IsResolvedOptional lhs lhs' × (operator ≡ operator') × IsResolved rhs rhs'
    IsResolved (List' m elements opener) (List' n elements' opener') = AreResolved elements elements' × (opener ≡ opener')
    IsResolved (ListConcatenation' p lhs operator q rhs) (ListConcatenation' p' lhs' operator' q' rhs') = IsResolved lhs lhs' × (operator ≡ operator') × IsResolved rhs rhs'
    IsResolved (Not' p operand) (Not' p' operand') = IsResolved operand operand'
    IsResolved (Or' p lhs q rhs) (Or' p' lhs' q' rhs') = IsResolved lhs lhs' × IsResolved rhs rhs'
    IsResolved (StringLiteral literal) (StringLiteral literal') = literal ≡ literal'
    IsResolved (Variable name number) (Variable name' number') = (name ≡ name') × (number ≡ numbers (name_text name'))
    IsResolved _ _ = ⊥

    -- the same for optional expressions
    pub IsResolvedOptional : (resolved original : OptionalExpression) → Type 0
    IsResolvedOptional None' None' = Unit {0}
    IsResolvedOptional (Some' p resolved) (Some' q original) = IsResolved resolved original
    IsResolvedOptional _ _ = ⊥

    pub AreResolved : {m n : _} → (resolved : ExpressionRow m) (originals : ExpressionRow n) → Type 0
    AreResolved row_end row_end = Unit {0}
    AreResolved (row_more e es) (row_more original originals) = IsResolved e original × AreResolved es originals
    AreResolved _ _ = ⊥

    pub AreResolvedParts : {m n : _} → (resolved : FormatRow m) (originals : FormatRow n) → Type 0
    AreResolvedParts format_row_end format_row_end = Unit {0}
    AreResolvedParts (format_row_more e part es) (format_row_more original part' originals) = IsResolved e original × (part ≡ part') × AreResolvedParts es originals
    AreResolvedParts _ _ = ⊥

  -- the same for an `Option` of a box
  abbrev pub IsResolvedOption : (resolved original : Option (Box Expression)) → Type 0
  IsResolvedOption None None = Unit {0}
  IsResolvedOption (Some resolved) (Some original) = IsResolved resolved.value original.value
  IsResolvedOption _ _ = ⊥

  -- the same for an expression of a format string and the part after it
  abbrev pub IsResolvedPart : (resolved original : Expression × literals.StringLiteral) → Type 0
  IsResolvedPart resolved original = IsResolved resolved.0 original.0 × (resolved.1 ≡ original.1)
