-- A child has fewer nodes than its parent.
use mathlib.Core.Former.{Count}
use Rattle.std.proofs.Common.{◌≡◌, ℕ, ◌<◌, zero, suc, Some, List, [], ◌∷◌, arith, subst}
use Rattle.std.specs.List.{slice_get}
use Rattle.justfile_token.specs.declared.string_literal.StringLiteral as literals
use Rattle.justfile_expression.specs.Children.{Child, children, row_children, then_text, then_part}
pub use Rattle.justfile_expression.specs.Nodes.{nodes, row_nodes, part_nodes}
use Rattle.justfile_expression.specs.declared.expression.Expression.{Expression, And', Assert', Backtick, Call', Comparison', Concatenation', Conditional', FormatString', Group', Join', List', ListConcatenation', Not', Or', StringLiteral, Variable, None', Some', Row_of-Expression as ExpressionRow, end_of-Expression as row_end, more_of-Expression as row_more, Row_of-Expression-FormatString-1-2 as FormatRow, end_of-Expression-FormatString-1-2 as format_row_end, more_of-Expression-FormatString-1-2 as format_row_more, items-the_row-Expression, items-the_row-Expression-FormatString-1-2}

-- each element of a list has the property
abbrev Each : {X : Type 0} → (X → Type 0) → List X → Type 0
Each P [] = Unit {0}
Each P (x ∷ xs) = P x × Each P xs

each_at : {X : Type 0} (P : X → Type 0) (xs : List X) (i : ℕ) (x : X) → Each P xs → slice_get xs i ≡ Some x → P x
each_at P [] i x h e = absurd cc
each_at P (y ∷ ys) zero x h e = let same : y ≡ x = cc in subst P same h.0
each_at P (y ∷ ys) (suc i) x h e = each_at P ys i x h.1 e

module _ {X : Type 0} (inner last : X → Child) (n : ℕ) where
  -- the children of a row have fewer than `n` nodes if its elements have, for both kinds of elements
  ended_below : (xs : List X) → Each (λ x. (nodes (inner x).0 < n) × (nodes (last x).0 < n)) xs → Each (λ (c : Child). nodes c.0 < n) (row_children inner last xs)
  ended_below [] h = tt
  ended_below (x ∷ []) h = (h.0.1, tt)
  ended_below (x ∷ y ∷ xs) h = (h.0.0, ended_below (y ∷ xs) h.1)

row_below : (k : ℕ) (n : Count) (row : ExpressionRow n) → row_nodes row < k → Each (λ e. (nodes e < k) × (nodes e < k)) (items-the_row-Expression n row)
row_below k n row_end h = tt
row_below k n (row_more e others) h = ((omega arith, omega arith), row_below k _ others (omega arith))

parts_below : (k : ℕ) (n : Count) (row : FormatRow n) → part_nodes row < k
    → Each (λ (p : Expression × literals.StringLiteral). (nodes p.0 < k) × (nodes p.0 < k)) (items-the_row-Expression-FormatString-1-2 n row)
parts_below k n format_row_end h = tt
parts_below k n (format_row_more e literal others) h = ((omega arith, omega arith), parts_below k _ others (omega arith))

all_below : (e : Expression) → Each (λ (c : Child). nodes c.0 < nodes e) (children e)
all_below (And' p lhs q rhs) = (omega arith, (omega arith, tt))
all_below (Assert' p condition None' name) = (omega arith, tt)
all_below (Assert' p condition (Some' q message) name) = (omega arith, (omega arith, tt))
all_below (Backtick contents token) = tt
all_below (Call' name n arguments) = ended_below (then_text _) (then_text _) _ _ (row_below _ _ arguments (omega arith))
all_below (Comparison' p lhs operator q rhs token) = (omega arith, (omega arith, tt))
all_below (Concatenation' p lhs operator q rhs) = (omega arith, (omega arith, tt))
all_below (Conditional' p condition q branch None') = (omega arith, (omega arith, tt))
all_below (Conditional' p condition q branch (Some' r other)) = (omega arith, (omega arith, (omega arith, tt)))
all_below (FormatString' first n expressions) = ended_below (then_part _) (then_part _) _ _ (parts_below _ _ expressions (omega arith))
all_below (Group' p contents) = (omega arith, tt)
all_below (Join' None' operator q rhs) = (omega arith, tt)
all_below (Join' (Some' p lhs) operator q rhs) = (omega arith, (omega arith, tt))
all_below (List' n elements opener) = ended_below (then_text _) (then_text _) _ _ (row_below _ _ elements (omega arith))
all_below (ListConcatenation' p lhs operator q rhs) = (omega arith, (omega arith, tt))
all_below (Not' p operand) = (omega arith, tt)
all_below (Or' p lhs q rhs) = (omega arith, (omega arith, tt))
all_below (StringLiteral literal) = tt
all_below (Variable name number) = tt

-- a child has fewer nodes
pub fewer : (e : Expression) (i : ℕ) (c : Child) → slice_get (children e) i ≡ Some c → nodes c.0 < nodes e
fewer e i c h = each_at (λ (d : Child). nodes d.0 < nodes e) (children e) i c (all_below e) h
