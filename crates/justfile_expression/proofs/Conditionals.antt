-- Whether an expression is a conditional.
use mathlib.Core.Former.{Count}
use Rattle.std.proofs.Common.{◌≡◌, false, Option, refl, sym}
use Rattle.std.specs.Global.{Box}
use Rattle.justfile_model.specs.Lexing.Tok.{Tok, tok_of}
use Rattle.justfile_model.specs.Trees.Tree.{over_expr, lexeme, nothing}
use Rattle.justfile_model.specs.Printed.Printing.{is_conditional}
use Rattle.justfile_expression.specs.Expression.{expr_shape, format_of}
use Rattle.justfile_expression.specs.declared.expression.Expression.{Expression, Conditional, And', Assert', Backtick, Call', Comparison', Concatenation', Conditional', FormatString', Group', Join', List', ListConcatenation', Not', Or', StringLiteral, Variable, None', Some', Row_of-Expression-FormatString-1-2 as FormatRow, end_of-Expression-FormatString-1-2 as format_row_end, more_of-Expression-FormatString-1-2 as format_row_more, roll-Expression, out-Expression, roll-out-Expression}

format_never : (start : Tok) (n : Count) (row : FormatRow n) → false ≡ is_conditional (over_expr lexeme nothing (format_of start row))
format_never start n format_row_end = refl
format_never start n (format_row_more e literal others) = refl

-- an expression that isn't a conditional
pub not_conditional : (e : Expression) → ((condition branch : Box Expression) (otherwise : Option (Box Expression)) → e ≡ Conditional condition branch otherwise → ⊥) → false ≡ is_conditional (expr_shape e)
unfolding Rattle.justfile_expression.specs.declared.expression.Expression.TheViews.roll-Expression denote.Hole.Carrier.roll Rattle.justfile_expression.specs.declared.expression.Expression.TheViews.out-Expression denote.Hole.Carrier.out
not_conditional (And' p lhs q rhs) never = refl
not_conditional (Assert' p condition None' name) never = refl
not_conditional (Assert' p condition (Some' q message) name) never = refl
not_conditional (Backtick contents token) never = refl
not_conditional (Call' name n arguments) never = refl
not_conditional (Comparison' p lhs operator q rhs token) never = refl
not_conditional (Concatenation' p lhs operator q rhs) never = refl
not_conditional (Conditional' p condition q branch otherwise) never = absurd (never _ _ _ (sym (roll-out-Expression (Conditional' p condition q branch otherwise))))
not_conditional (FormatString' start n expressions) never = format_never (tok_of start.token) _ expressions
not_conditional (Group' p contents) never = refl
not_conditional (Join' None' operator q rhs) never = refl
not_conditional (Join' (Some' p lhs) operator q rhs) never = refl
not_conditional (List' n elements opener) never = refl
not_conditional (ListConcatenation' p lhs operator q rhs) never = refl
not_conditional (Not' p operand) never = refl
not_conditional (Or' p lhs q rhs) never = refl
not_conditional (StringLiteral literal) never = refl
not_conditional (Variable name number) never = refl
