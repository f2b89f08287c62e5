-- The form of an expression, from its tree.
use Rattle.std.proofs.Common.{◌≡◌, false, Some, refl}
use Rattle.justfile_model.specs.Grammars.Expressions.{ends_open}
use Rattle.justfile_token.specs.declared.token.Token.{Token}
use Rattle.justfile_model.specs.Trees.Tree.{Expr}
use Rattle.justfile_vocabulary.specs.declared.list_feature.ListFeature.TheVariants as features
use Rattle.justfile_model.specs.Grammars.Features.{uncompared_feature}
use Rattle.justfile_expression.specs.LeafTree.{Leaf, assert_tree, conditional_tree, join_tree, format_row_tree}
use Rattle.justfile_expression.specs.declared.expression.Expression.{Held-Expression-Assert-1 as OptionalExpression, None', Some', Row_of-Expression-FormatString-1-2 as FormatRow, end_of-Expression-FormatString-1-2 as format_row_end, more_of-Expression-FormatString-1-2 as format_row_more}

module _ (t : Token) (c : Expr Leaf Token) where
  pub assert_plain : (m : OptionalExpression) → uncompared_feature (assert_tree t c m) ≡ Some features.NonComparisonCondition
  assert_plain None' = refl
  assert_plain (Some' p m) = refl

  pub join_plain : (l : OptionalExpression) → uncompared_feature (join_tree l t c) ≡ Some features.NonComparisonCondition
  join_plain None' = refl
  join_plain (Some' p l) = refl

  pub assert_ends : (m : OptionalExpression) → ends_open (assert_tree t c m) ≡ false
  assert_ends None' = refl
  assert_ends (Some' p m) = refl

  pub join_ends : (l : OptionalExpression) → ends_open (join_tree l t c) ≡ false
  join_ends None' = refl
  join_ends (Some' p l) = refl

pub conditional_plain : (c b : Expr Leaf Token) (o : OptionalExpression) → uncompared_feature (conditional_tree c b o) ≡ Some features.NonComparisonCondition
conditional_plain c b None' = refl
conditional_plain c b (Some' p o) = refl

pub format_plain : (t : Leaf) {n : _} (parts : FormatRow n) → uncompared_feature (format_row_tree t parts) ≡ Some features.NonComparisonCondition
format_plain t format_row_end = refl
format_plain t (format_row_more e l parts) = refl

pub format_ends : (t : Leaf) {n : _} (parts : FormatRow n) → ends_open (format_row_tree t parts) ≡ false
format_ends t format_row_end = refl
format_ends t (format_row_more e l parts) = refl
