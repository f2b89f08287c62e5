-- Expressions that aren't literals.
use mathlib.Core.Former.{Count}
use Rattle.std.proofs.Common.{◌≡◌, None, refl}
use Rattle.justfile_token.specs.declared.string_literal.StringLiteral as literals
use Rattle.justfile_model.specs.Meanings.Meaning.{quoted}
use Rattle.justfile_expression.specs.LeafTree.{Leaf, leaf_tree_of, format_row_tree}
use Rattle.justfile_expression.specs.declared.expression.Expression.{Expression, And', Assert', Backtick, Call', Comparison', Concatenation', Conditional', FormatString', Group', Join', List', ListConcatenation', Not', Or', StringLiteral, Variable, None', Some', Row_of-Expression-FormatString-1-2 as FormatRow, end_of-Expression-FormatString-1-2 as format_row_end, more_of-Expression-FormatString-1-2 as format_row_more}

format_never : (start : Leaf) (n : Count) (row : FormatRow n) → quoted (format_row_tree start row) ≡ None
format_never start n format_row_end = refl
format_never start n (format_row_more e literal others) = refl

pub not_quoted : (e : Expression) → ((l : literals.StringLiteral) → e ≡ StringLiteral l → ⊥) → quoted (leaf_tree_of e) ≡ None
not_quoted (And' p lhs q rhs) never = refl
not_quoted (Assert' p condition None' name) never = refl
not_quoted (Assert' p condition (Some' q message) name) never = refl
not_quoted (Backtick contents token) never = refl
not_quoted (Call' name n arguments) never = refl
not_quoted (Comparison' p lhs operator q rhs token) never = refl
not_quoted (Concatenation' p lhs operator q rhs) never = refl
not_quoted (Conditional' p condition q branch None') never = refl
not_quoted (Conditional' p condition q branch (Some' r otherwise)) never = refl
not_quoted (FormatString' start n expressions) never = format_never _ _ expressions
not_quoted (Group' p contents) never = refl
not_quoted (Join' None' operator q rhs) never = refl
not_quoted (Join' (Some' p lhs) operator q rhs) never = refl
not_quoted (List' n elements opener) never = refl
not_quoted (ListConcatenation' p lhs operator q rhs) never = refl
not_quoted (Not' p operand) never = refl
not_quoted (Or' p lhs q rhs) never = refl
not_quoted (StringLiteral literal) never = absurd (never literal refl)
not_quoted (Variable name number) never = refl
