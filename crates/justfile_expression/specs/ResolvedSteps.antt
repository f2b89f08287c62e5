-- How variables are resolved along right sides: an expression up to its right side, and the way back to the whole.
use Rattle.std.specs.Prelude.{◌≡◌, ℕ, List, Option, None, Some}
use Rattle.justfile_numbers.specs.declared.number.Number.{Number}
use Rattle.justfile_expression.specs.Resolved.{IsResolved, IsResolvedOptional}
use Rattle.justfile_expression.specs.declared.expression.Expression.{Expression, And', Comparison', Concatenation', Conditional', Join', ListConcatenation', Not', Or', Some'}

-- an expression with another right side, if it has one
abbrev pub with_right : (e right : Expression) → Expression
with_right (And' p lhs q rhs) right = And' p lhs q right
with_right (Comparison' p lhs operator q rhs token) right = Comparison' p lhs operator q right token
with_right (Concatenation' p lhs operator q rhs) right = Concatenation' p lhs operator q right
with_right (Conditional' p condition q branch (Some' s otherwise)) right = Conditional' p condition q branch (Some' s right)
with_right (Join' lhs operator q rhs) right = Join' lhs operator q right
with_right (ListConcatenation' p lhs operator q rhs) right = ListConcatenation' p lhs operator q right
with_right (Not' p operand) right = Not' p right
with_right (Or' p lhs q rhs) right = Or' p lhs q right
with_right e right = e

-- An expression within its parents. These are a row from the inside out: each has the next one in the place of its right side.
abbrev pub rejoined : (parents e : Expression) → Expression
rejoined (And' p lhs q next) e = rejoined next (And' p lhs q e)
rejoined (Comparison' p lhs operator q next token) e = rejoined next (Comparison' p lhs operator q e token)
rejoined (Concatenation' p lhs operator q next) e = rejoined next (Concatenation' p lhs operator q e)
rejoined (Conditional' p condition q branch (Some' s next)) e = rejoined next (Conditional' p condition q branch (Some' s e))
rejoined (Join' lhs operator q next) e = rejoined next (Join' lhs operator q e)
rejoined (ListConcatenation' p lhs operator q next) e = rejoined next (ListConcatenation' p lhs operator q e)
rejoined (Not' p next) e = rejoined next (Not' p e)
rejoined (Or' p lhs q next) e = rejoined next (Or' p lhs q e)
rejoined parents e = e

-- the right side of an expression, if it has one, and `other` have changed places
abbrev pub IsExchanged : (old old_other new new_other : Expression) → (right : Option Expression) → Type 0
IsExchanged old old_other new new_other None = (new ≡ old) × (new_other ≡ old_other)
IsExchanged old old_other new new_other (Some right) = (new ≡ with_right old old_other) × (new_other ≡ right)

module _ (numbers : (name : List ℕ) → Option Number) where
  -- an expression resolved up to its right side, which is that of the original
  abbrev pub IsResolvedLeft : (resolved original : Expression) → Type 0
  IsResolvedLeft (And' p lhs q rhs) (And' p' lhs' q' rhs') = IsResolved numbers lhs lhs' × (rhs ≡ rhs')
  IsResolvedLeft (Comparison' p lhs operator q rhs token) (Comparison' p' lhs' operator' q' rhs' token') = IsResolved numbers lhs lhs' × (operator ≡ operator') × (rhs ≡ rhs') × (token ≡ token')
  IsResolvedLeft (Concatenation' p lhs operator q rhs) (Concatenation' p' lhs' operator' q' rhs') = IsResolved numbers lhs lhs' × (operator ≡ operator') × (rhs ≡ rhs')
  IsResolvedLeft (Conditional' p condition q branch otherwise) (Conditional' p' condition' q' branch' otherwise') = IsResolved numbers condition condition' × IsResolved numbers branch branch' × (otherwise ≡ otherwise')
  IsResolvedLeft (Join' lhs operator q rhs) (Join' lhs' operator' q' rhs') = IsResolvedOptional numbers lhs lhs' × (operator ≡ operator') × (rhs ≡ rhs')
  IsResolvedLeft (ListConcatenation' p lhs operator q rhs) (ListConcatenation' p' lhs' operator' q' rhs') = IsResolved numbers lhs lhs' × (operator ≡ operator') × (rhs ≡ rhs')
  IsResolvedLeft (Not' p operand) (Not' p' operand') = operand ≡ operand'
  IsResolvedLeft (Or' p lhs q rhs) (Or' p' lhs' q' rhs') = IsResolved numbers lhs lhs' × (rhs ≡ rhs')
  IsResolvedLeft resolved original = IsResolved numbers resolved original
