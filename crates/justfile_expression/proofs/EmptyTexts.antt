-- The text after a child is empty only for the last child of an expression.
use Rattle.std.proofs.Common.{◌≡◌, ℕ, true, false, zero, suc, None, Some, List, [], ◌∷◌, ◌++◌, length, codes, refl}
use Rattle.std.specs.List.{slice_get}
use Rattle.justfile_model.specs.Printed.Printing.{fixed_text, is_conditional, operator_text}
use Rattle.justfile_model.specs.declared.conditional_operator.ConditionalOperator.{ConditionalOperator}
use Rattle.justfile_model.specs.declared.conditional_operator.ConditionalOperator.TheVariants.{Equality, Inequality, RegexMatch, RegexMismatch}
use Rattle.justfile_expression.specs.Children.{Child, children, row_children, then_text, then_part}
use Rattle.justfile_leaves.specs.OtherBranch.{before_other}
use Rattle.justfile_expression.specs.Expression.{expr_shape}
use Rattle.justfile_leaves.specs.Texts.{texts_joined}
use Rattle.justfile_expression.specs.declared.expression.Expression.{Expression, And', Assert', Backtick, Call', Comparison', Concatenation', Conditional', FormatString', Group', Join', List', ListConcatenation', Not', Or', StringLiteral, Variable, None', Some', items-the_row-Expression, items-the_row-Expression-FormatString-1-2}

-- the text after each child but the last isn't empty
abbrev AreParted : List Child → Type 0
AreParted [] = Unit {0}
AreParted (c ∷ []) = Unit {0}
AreParted (c ∷ cs) = (texts_joined c.1 ≡ [] → ⊥) × AreParted cs

module _ {X : Type 0} (inner last : X → Child) (parts : (x : X) → texts_joined (inner x).1 ≡ [] → ⊥) where
  row_parted : (xs : List X) → AreParted (row_children inner last xs)
  row_parted [] = tt
  row_parted (x ∷ []) = tt
  row_parted (x ∷ y ∷ []) = (parts x, tt)
  row_parted (x ∷ y ∷ z ∷ xs) = (parts x, row_parted (y ∷ z ∷ xs))

operator_parts : (operator : ConditionalOperator) → operator_text operator ≡ [] → ⊥
unfolding fixed_text
operator_parts Equality e = absurd cc
operator_parts Inequality e = absurd cc
operator_parts RegexMatch e = absurd cc
operator_parts RegexMismatch e = absurd cc

other_parts : (conditional : _) → before_other conditional ≡ [] → ⊥
other_parts true e = absurd cc
other_parts false e = absurd cc

children_parted : (e : Expression) → AreParted (children e)
children_parted (And' p lhs q rhs) = ((λ e. absurd cc), tt)
children_parted (Assert' p condition None' name) = tt
children_parted (Assert' p condition (Some' q message) name) = ((λ e. absurd cc), tt)
children_parted (Backtick contents token) = tt
children_parted (Call' name n arguments) = row_parted (then_text (codes ", ")) (then_text _) (λ x e. absurd cc) (items-the_row-Expression _ arguments)
children_parted (Comparison' p lhs operator q rhs token) = (operator_parts operator, tt)
children_parted (Concatenation' p lhs operator q rhs) = ((λ e. absurd cc), tt)
children_parted (Conditional' p condition q branch None') = ((λ e. absurd cc), tt)
children_parted (Conditional' p condition q branch (Some' r other)) = ((λ e. absurd cc), (other_parts (is_conditional (expr_shape other)), tt))
children_parted (FormatString' first n expressions) = row_parted (then_part (codes " ")) (then_part []) (λ x e. absurd cc) (items-the_row-Expression-FormatString-1-2 _ expressions)
children_parted (Group' p contents) = tt
children_parted (Join' None' operator q rhs) = tt
children_parted (Join' (Some' p lhs) operator q rhs) = ((λ e. absurd cc), tt)
children_parted (List' n elements opener) = row_parted (then_text (codes ", ")) (then_text _) (λ x e. absurd cc) (items-the_row-Expression _ elements)
children_parted (ListConcatenation' p lhs operator q rhs) = ((λ e. absurd cc), tt)
children_parted (Not' p operand) = tt
children_parted (Or' p lhs q rhs) = ((λ e. absurd cc), tt)
children_parted (StringLiteral literal) = tt
children_parted (Variable name number) = tt

last_at : (cs : List Child) (i : ℕ) (c : Child) → AreParted cs → slice_get cs i ≡ Some c → texts_joined c.1 ≡ [] → None ≡ slice_get cs (suc i)
last_at [] i c h e silent = absurd cc
last_at (d ∷ []) zero c h e silent = refl
last_at (d ∷ []) (suc i) c h e silent = absurd cc
last_at (d ∷ f ∷ cs) zero c h e silent = let same : d ≡ c = cc in absurd (h.0 (rw same silent))
last_at (d ∷ f ∷ cs) (suc i) c h e silent = last_at (f ∷ cs) i c h.1 e silent

-- a child with an empty text after it is the last one
pub silent_last : (e : Expression) (i : ℕ) (c : Child) → slice_get (children e) i ≡ Some c → texts_joined c.1 ≡ [] → None ≡ slice_get (children e) (suc i)
silent_last e i c h silent = last_at (children e) i c (children_parted e) h silent
