-- The order of expressions by content is total, and agrees with the order of their content keys.
use Rattle.std.specs.Prelude.{◌≡◌}
use Rattle.std.specs.Cmp.{IsTotalOrder, on_total}
use Rattle.justfile_model.specs.Trees.ContentLeaf.{content_cmp}
use Rattle.justfile_model.specs.Trees.ContentLeafLaws.{content_total}
use Rattle.justfile_model.specs.Trees.Key.{key_cmp}
use Rattle.justfile_model.specs.Trees.KeyLaws.{key_total, mapped_key_cmp}
use Rattle.justfile_expression.specs.Content.{content_key, content_of, content_order, expression_content_cmp}
use Rattle.justfile_expression.specs.Order.{key}
use Rattle.justfile_expression.specs.declared.expression.Expression.{Expression}

pub content_order_total : IsTotalOrder content_order
content_order_total = key_total (on_total content_of content_total)

pub expression_content_total : IsTotalOrder expression_content_cmp
expression_content_total = on_total key content_order_total

pub content_key_cmp : (a b : Expression) → key_cmp content_cmp (content_key a) (content_key b) ≡ expression_content_cmp a b
content_key_cmp a b = mapped_key_cmp content_cmp content_of (key a) (key b)
