-- Two expressions compare as equal by content exactly if their contents are equal.
use Rattle.std.proofs.Common.{◌≡◌}
use Rattle.std.specs.Prelude.{◌↔◌}
use Rattle.std.specs.declared.cmp.Ordering.TheVariants.{Equal}
use Rattle.justfile_model.proofs.Lists.KeyTies.{same_content}
use Rattle.justfile_model.specs.Trees.Key.{Key, map_key}
use Rattle.justfile_expression.specs.Content.{content_key, content_of, content_order, expression_content_cmp}
use Rattle.justfile_expression.specs.Leaf.{KeyLeaf}
use Rattle.justfile_expression.specs.Order.{key}
use Rattle.justfile_expression.specs.declared.expression.Expression.{Expression}

pub content_ties : (k l : Key KeyLeaf) → (content_order k l ≡ Equal) ↔ (map_key content_of k ≡ map_key content_of l)
content_ties = same_content content_of

pub expression_content_ties : (a b : Expression) → (expression_content_cmp a b ≡ Equal) ↔ (content_key a ≡ content_key b)
expression_content_ties a b = content_ties (key a) (key b)
