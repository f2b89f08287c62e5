-- The comparison of two expressions in steps along their right sides.
use Rattle.std.proofs.Common.{◌≡◌, ◌∙◌, true, false, Option, None, Some, refl, sym, ap}
use mathlib.Core.Bool.{true≢false}
use Rattle.std.specs.Borrow.{Bor}
use Rattle.std.specs.Option.{option_map}
use Rattle.std.specs.Ordering.{ordering_then, is_ne}
use Rattle.std.specs.declared.cmp.Ordering.{Ordering}
use Rattle.std.specs.declared.cmp.Ordering.TheVariants.{Less, Equal, Greater}
use Rattle.justfile_model.specs.Trees.Key.{key_cmp}
use Rattle.justfile_model.specs.Trees.KeyLaws.{then_end}
use Rattle.justfile_expression.specs.Leaf.{KeyLeaf, operator, token}
use Rattle.justfile_expression.specs.Order.{key, optional_key}
use Rattle.justfile_expression.specs.OrderSteps.{left_key, presence_key, token_after, both_cmp}
use Rattle.justfile_expression.specs.Children.{optional_expression}
use Rattle.justfile_expression.specs.RightSides.{right_side}
use Rattle.justfile_expression.proofs.Compared.{then_then}
use Rattle.justfile_expression.specs.declared.expression.Expression.{Expression, And', Assert', Backtick, Call', Comparison', Concatenation', Conditional', FormatString', Group', Join', List', ListConcatenation', Not', Or', StringLiteral, Variable, Held-Expression-Assert-1 as OptionalExpression, None', Some'}

-- one comparison, or two, before those of the right side and after it
after_one : (l r t : Ordering) → ordering_then l (ordering_then r t) ≡ ordering_then (ordering_then l Equal) (ordering_then r t)
after_one l r t = ap (λ o. ordering_then o (ordering_then r t)) (sym (then_end l))

after_two : (l m r t : Ordering) → ordering_then l (ordering_then m (ordering_then r t)) ≡ ordering_then (ordering_then l (ordering_then m Equal)) (ordering_then r t)
after_two l m r t = sym (then_then l m (ordering_then r t)) ∙ ap (λ o. ordering_then o (ordering_then r t)) (ap (ordering_then l) (sym (then_end m)))

pub no_difference : (o : Ordering) → is_ne o ≡ false → o ≡ Equal
no_difference Less h = absurd (true≢false h)
no_difference Equal h = refl
no_difference Greater h = absurd (true≢false h)

module _ (R : KeyLeaf → KeyLeaf → Ordering) where
  abbrev pub by_key : Expression → Expression → Ordering
  by_key a b = key_cmp R (key a) (key b)

  abbrev pub by_token_after : Expression → Expression → Ordering
  by_token_after a b = both_cmp (λ s t. R (token s) (token t)) (token_after a) (token_after b)

  -- conditionals, by the order of their conditions and that of their branches
  branches : (l m : Ordering) (a b : OptionalExpression)
      → ordering_then l (ordering_then m (ordering_then (key_cmp R (optional_key a) (optional_key b)) Equal))
      ≡ ordering_then (ordering_then l (ordering_then m (ordering_then (key_cmp R (presence_key a) (presence_key b)) Equal))) (ordering_then (both_cmp by_key (optional_expression a) (optional_expression b)) Equal)
  branches l m None' None' = sym (then_end _)
  branches l m None' (Some' q b) = sym (then_end _)
  branches l m (Some' p a) None' = sym (then_end _)
  branches l m (Some' p a) (Some' q b) = after_two l m (ordering_then (by_key a b) Equal) Equal ∙ ap (λ o. ordering_then (ordering_then l (ordering_then m Equal)) (ordering_then o Equal)) (then_end (by_key a b))

  -- two expressions compare up to their right sides, then by these, and then by what follows
  pub in_steps : (a b : Expression) → by_key a b ≡ ordering_then (key_cmp R (left_key a) (left_key b)) (ordering_then (both_cmp by_key (right_side a) (right_side b)) (by_token_after a b))
  in_steps (And' p l q r) (And' p' l' q' r') = after_one (by_key l l') (by_key r r') Equal
  in_steps (Assert' p c m n) (Assert' p' c' m' n') = sym (then_end _)
  in_steps (Backtick c t) (Backtick c' t') = sym (then_end _)
  in_steps (Call' n m v) (Call' n' m' v') = sym (then_end _)
  in_steps (Comparison' p l o q r t) (Comparison' p' l' o' q' r' t') =
      after_two (by_key l l') (R (operator o) (operator o')) (by_key r r') (ordering_then (R (token t) (token t')) Equal)
      ∙ ap (λ w. ordering_then (ordering_then (by_key l l') (ordering_then (R (operator o) (operator o')) Equal)) (ordering_then (by_key r r') w)) (then_end (R (token t) (token t')))
  in_steps (Concatenation' p l o q r) (Concatenation' p' l' o' q' r') = after_two (by_key l l') (R (token o) (token o')) (by_key r r') Equal
  in_steps (Conditional' p c q b o) (Conditional' p' c' q' b' o') = branches (by_key c c') (by_key b b') o o'
  in_steps (FormatString' s m v) (FormatString' s' m' v') = sym (then_end _)
  in_steps (Group' p c) (Group' p' c') = sym (then_end _)
  in_steps (Join' l o q r) (Join' l' o' q' r') = after_two (key_cmp R (optional_key l) (optional_key l')) (R (token o) (token o')) (by_key r r') Equal
  in_steps (List' m v t) (List' m' v' t') = sym (then_end _)
  in_steps (ListConcatenation' p l o q r) (ListConcatenation' p' l' o' q' r') = after_two (by_key l l') (R (token o) (token o')) (by_key r r') Equal
  in_steps (Not' p e) (Not' p' e') = refl
  in_steps (Or' p l q r) (Or' p' l' q' r') = after_one (by_key l l') (by_key r r') Equal
  in_steps (StringLiteral s) (StringLiteral s') = sym (then_end _)
  in_steps (Variable n m) (Variable n' m') = sym (then_end _)
  in_steps a b = refl

  -- what is left of two expressions, of which one may be at its end
  abbrev pub by_rest : Option (Bor Expression) → Option (Bor Expression) → Ordering
  by_rest = both_cmp (λ a b. by_key a.now b.now)

  rests_are : (a b : Option (Bor Expression)) → by_rest a b ≡ both_cmp by_key (option_map (λ e. e.now) a) (option_map (λ e. e.now) b)
  rests_are None b = refl
  rests_are (Some a) None = refl
  rests_are (Some a) (Some b) = refl

  sides_are : (a b : Expression) (rest other : Option (Bor Expression)) → option_map (λ e. e.now) rest ≡ right_side a → option_map (λ e. e.now) other ≡ right_side b
      → by_rest rest other ≡ both_cmp by_key (right_side a) (right_side b)
  sides_are a b rest other e f = rests_are rest other ∙ (λ i. both_cmp by_key (e i) (f i))

  -- up to the right sides there is no difference, so these and what follows are left
  pub stepped : (a b : Expression) (rest other : Option (Bor Expression)) (left more after later whole : Ordering)
      → left ≡ key_cmp R (left_key a) (left_key b) → left ≡ Equal
      → option_map (λ e. e.now) rest ≡ right_side a → option_map (λ e. e.now) other ≡ right_side b
      → more ≡ by_token_after a b → later ≡ ordering_then more after → ordering_then (by_key a b) after ≡ whole
      → ordering_then (by_rest rest other) later ≡ whole
  stepped a b rest other left more after later whole l equal e f m n w =
      (λ i. ordering_then (sides_are a b rest other e f i) ((n ∙ ap (λ o. ordering_then o after) m) i))
      ∙ sym (then_then (both_cmp by_key (right_side a) (right_side b)) (by_token_after a b) after)
      ∙ ap (λ o. ordering_then (ordering_then o (ordering_then (both_cmp by_key (right_side a) (right_side b)) (by_token_after a b))) after) (sym (sym l ∙ equal))
      ∙ ap (λ o. ordering_then o after) (sym (in_steps a b)) ∙ w

  different : (o p q : Ordering) → is_ne o ≡ true → ordering_then (ordering_then o p) q ≡ o
  different Less p q h = refl
  different Equal p q h = absurd (true≢false (sym h))
  different Greater p q h = refl

  -- up to the right sides there is a difference, and it decides
  pub decided : (a b : Expression) (left after whole : Ordering) → left ≡ key_cmp R (left_key a) (left_key b) → is_ne left ≡ true → ordering_then (by_key a b) after ≡ whole → left ≡ whole
  decided a b left after whole l h w =
      sym (different left (ordering_then (both_cmp by_key (right_side a) (right_side b)) (by_token_after a b)) after h)
      ∙ ap (λ o. ordering_then (ordering_then o (ordering_then (both_cmp by_key (right_side a) (right_side b)) (by_token_after a b))) after) l
      ∙ ap (λ o. ordering_then o after) (sym (in_steps a b)) ∙ w

-- what is left of two expressions, if both have a next one
pub next_two : (R : KeyLeaf → KeyLeaf → Ordering) (rest other : Option (Bor Expression)) (a b : Bor Expression) (after whole : Ordering) → rest ≡ Some a → other ≡ Some b
    → ordering_then (by_rest R rest other) after ≡ whole → ordering_then (by_key R a.now b.now) after ≡ whole
next_two R rest other a b after whole e f w = ap (λ o. ordering_then o after) (sym (λ i. by_rest R (e i) (f i))) ∙ w

-- the same at the end of one of them
pub first_ended : (R : KeyLeaf → KeyLeaf → Ordering) (rest other : Option (Bor Expression)) (after whole : Ordering) → rest ≡ None → ordering_then (by_rest R rest other) after ≡ whole → after ≡ whole
first_ended R rest other after whole e w = sym (ap (λ o. ordering_then (by_rest R o other) after) e) ∙ w

pub second_ended : (R : KeyLeaf → KeyLeaf → Ordering) (rest other : Option (Bor Expression)) (a : Bor Expression) (after whole : Ordering) → rest ≡ Some a → other ≡ None
    → ordering_then (by_rest R rest other) after ≡ whole → after ≡ whole
second_ended R rest other a after whole e f w = sym (ap (λ o. ordering_then o after) (λ i. by_rest R (e i) (f i))) ∙ w
