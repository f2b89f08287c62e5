-- Resolution along right sides: what the loops keep.
use Rattle.std.proofs.Common.{◌≡◌, ◌∙◌, ℕ, ◌<◌, List, Option, None, Some, IfSome, is_some, true, false, refl, sym, ap, subst}
use Rattle.justfile_numbers.specs.declared.number.Number.{Number}
use Rattle.justfile_expression.specs.Children.{optional_expression}
use Rattle.justfile_expression.specs.Resolved.{IsResolved, IsResolvedOptional}
use Rattle.justfile_expression.specs.ResolvedSteps.{IsExchanged, IsResolvedLeft, rejoined, with_right}
use Rattle.justfile_expression.specs.RightSides.{right_side}
use Rattle.justfile_expression.specs.declared.expression.Expression.{Expression, And', Assert', Backtick, Call', Comparison', Concatenation', Conditional', FormatString', Group', Join', List', ListConcatenation', Not', Or', StringLiteral, Variable, None', Some', size-Expression}

-- the innermost parent and its own parents
next_parent : (parent others e : Expression) → is_some (right_side parent) ≡ true → rejoined (with_right parent others) e ≡ rejoined others (with_right parent e)
next_parent (And' p l q r) others e h = refl
next_parent (Comparison' p l o q r t) others e h = refl
next_parent (Concatenation' p l o q r) others e h = refl
next_parent (Conditional' p c q b (Some' s o)) others e h = refl
next_parent (Join' l o q r) others e h = refl
next_parent (ListConcatenation' p l o q r) others e h = refl
next_parent (Not' p r) others e h = refl
next_parent (Or' p l q r) others e h = refl
next_parent parent others e h = cc

-- the same with the right side of the innermost parent as its own parents
within : (parents e : Expression) → IfSome (right_side parents) (λ others. rejoined others (with_right parents e) ≡ rejoined parents e)
within (And' p l q r) e = refl
within (Comparison' p l o q r t) e = refl
within (Concatenation' p l o q r) e = refl
within (Conditional' p c q b (Some' s o)) e = refl
within (Join' l o q r) e = refl
within (ListConcatenation' p l o q r) e = refl
within (Not' p r) e = refl
within (Or' p l q r) e = refl
within parents e = tt

join_within : (right : Option Expression) (parents e new other : Expression) → is_some right ≡ true → IsExchanged parents e new other right
    → IfSome right (λ others. rejoined others (with_right parents e) ≡ rejoined parents e) → rejoined other new ≡ rejoined parents e
join_within None parents e new other h is law = cc
join_within (Some right) parents e new other h is law = (λ i. rejoined (is.1 i) (is.0 i)) ∙ law

-- an expression is joined with its innermost parent
pub join_one : (parents e new other : Expression) → is_some (right_side parents) ≡ true → IsExchanged parents e new other (right_side parents) → rejoined other new ≡ rejoined parents e
join_one parents e new other h is = join_within (right_side parents) parents e new other h is (within parents e)

-- the measure falls from an expression to its right side
right_smaller : (right : Option Expression) (e new other old_other : Expression) (n : ℕ) → is_some right ≡ true → IsExchanged e old_other new other right
    → IfSome right (λ r. size-Expression r < n) → size-Expression other < n
right_smaller None e new other old_other n h is less = cc
right_smaller (Some right) e new other old_other n h is less = subst (λ (x : Expression). size-Expression x < n) (sym is.1) less

pub exchanged_smaller : (e old_other new other : Expression) (n : ℕ) → is_some (right_side e) ≡ true → IsExchanged e old_other new other (right_side e)
    → IfSome (right_side e) (λ r. size-Expression r < n) → size-Expression other < n
exchanged_smaller e old_other new other n = right_smaller (right_side e) e new other old_other n

module _ (numbers : (name : List ℕ) → Option Number) where
  pub same_right : (e original : Expression) → IsResolvedLeft numbers e original → right_side e ≡ right_side original
  same_right (And' p l q r) (And' p' l' q' r') left = ap Some left.1
  same_right (Assert' p c m n) (Assert' p' c' m' n') left = refl
  same_right (Backtick c t) (Backtick c' t') left = refl
  same_right (Call' n m v) (Call' n' m' v') left = refl
  same_right (Comparison' p l o q r t) (Comparison' p' l' o' q' r' t') left = ap Some left.2
  same_right (Concatenation' p l o q r) (Concatenation' p' l' o' q' r') left = ap Some left.2
  same_right (Conditional' p c q b o) (Conditional' p' c' q' b' o') left = ap optional_expression left.2
  same_right (FormatString' s m v) (FormatString' s' m' v') left = refl
  same_right (Group' p c) (Group' p' c') left = refl
  same_right (Join' l o q r) (Join' l' o' q' r') left = ap Some left.2
  same_right (List' m v t) (List' m' v' t') left = refl
  same_right (ListConcatenation' p l o q r) (ListConcatenation' p' l' o' q' r') left = ap Some left.2
  same_right (Not' p e) (Not' p' e') left = ap Some left
  same_right (Or' p l q r) (Or' p' l' q' r') left = ap Some left.1
  same_right (StringLiteral s) (StringLiteral s') left = refl
  same_right (Variable n m) (Variable n' m') left = refl
  same_right e original left = absurd left

  -- the right side is resolved, too
  resolved_with : (e original right : Expression) → IsResolvedLeft numbers e original → IfSome (right_side e) (IsResolved numbers right) → is_some (right_side e) ≡ true → IsResolved numbers (with_right e right) original
  resolved_with (And' p l q r) (And' p' l' q' r') right left is h = (left.0, subst (IsResolved numbers right) left.1 is)
  resolved_with (Comparison' p l o q r t) (Comparison' p' l' o' q' r' t') right left is h = (left.0, left.1, subst (IsResolved numbers right) left.2 is, left.3)
  resolved_with (Concatenation' p l o q r) (Concatenation' p' l' o' q' r') right left is h = (left.0, left.1, subst (IsResolved numbers right) left.2 is)
  resolved_with (Conditional' p c q b None') (Conditional' p' c' q' b' o') right left is h = cc
  resolved_with (Conditional' p c q b (Some' s o)) (Conditional' p' c' q' b' o') right left is h = (left.0, left.1, subst (IsResolvedOptional numbers (Some' s right)) left.2 is)
  resolved_with (Join' l o q r) (Join' l' o' q' r') right left is h = (left.0, left.1, subst (IsResolved numbers right) left.2 is)
  resolved_with (ListConcatenation' p l o q r) (ListConcatenation' p' l' o' q' r') right left is h = (left.0, left.1, subst (IsResolved numbers right) left.2 is)
  resolved_with (Not' p e) (Not' p' e') right left is h = subst (IsResolved numbers right) left is
  resolved_with (Or' p l q r) (Or' p' l' q' r') right left is h = (left.0, subst (IsResolved numbers right) left.1 is)
  resolved_with e original right left is h = left

  -- there is no right side
  pub resolved_alone : (e original : Expression) → IsResolvedLeft numbers e original → is_some (right_side original) ≡ false → IsResolved numbers e original
  resolved_alone (And' p l q r) (And' p' l' q' r') left h = cc
  resolved_alone (Comparison' p l o q r t) (Comparison' p' l' o' q' r' t') left h = cc
  resolved_alone (Concatenation' p l o q r) (Concatenation' p' l' o' q' r') left h = cc
  resolved_alone (Conditional' p c q b o) (Conditional' p' c' q' b' None') left h = (left.0, left.1, subst (λ w. IsResolvedOptional numbers w None') (sym left.2) tt)
  resolved_alone (Conditional' p c q b o) (Conditional' p' c' q' b' (Some' s o')) left h = cc
  resolved_alone (Join' l o q r) (Join' l' o' q' r') left h = cc
  resolved_alone (ListConcatenation' p l o q r) (ListConcatenation' p' l' o' q' r') left h = cc
  resolved_alone (Not' p e) (Not' p' e') left h = cc
  resolved_alone (Or' p l q r) (Or' p' l' q' r') left h = cc
  resolved_alone e original left h = left

  -- the parents of the right side: the resolved expression, and its own parents
  abbrev pub IsWithin : (parents e whole : Expression) → Type 0
  IsWithin parents e whole = (w : Expression) → IsResolved numbers w e → IsResolved numbers (rejoined parents w) whole

  within_one : (right : Option Expression) (e original parents new other whole : Expression) → is_some right ≡ true → right_side e ≡ right → IsResolvedLeft numbers e original
      → IsExchanged e parents new other right → IsWithin parents original whole → IsWithin new other whole
  within_one None e original parents new other whole h same left is all = cc
  within_one (Some right) e original parents new other whole h same left is all = λ w resolved.
      subst (λ (x : Expression). IsResolved numbers x whole)
      (sym (ap (λ (x : Expression). rejoined x w) is.0 ∙ next_parent e parents w (ap is_some same)))
      (all (with_right e w) (resolved_with e original w left (subst (λ o. IfSome o (IsResolved numbers w)) (sym same) (subst (IsResolved numbers w) is.1 resolved)) (ap is_some same)))

  pub one_more_parent : (e original parents new other whole : Expression) → is_some (right_side original) ≡ true → IsResolvedLeft numbers e original
      → IsExchanged e parents new other (right_side e) → IsWithin parents original whole → IsWithin new other whole
  one_more_parent e original parents new other whole h left is all =
      within_one (right_side e) e original parents new other whole (ap is_some (same_right e original left) ∙ h) refl left is all
