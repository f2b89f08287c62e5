-- The trees of expressions that are taken out of their boxes.
use Rattle.std.proofs.Common.{◌≡◌, Option, Some, None, refl, ap, ◌∙◌}
use Rattle.std.specs.Global.{Box}
use Rattle.std.specs.Option.{option_map}
use Rattle.justfile_expression.specs.LeafTree.{leaf_tree_of}
use Rattle.justfile_expression.specs.declared.expression.Expression.{Expression}
use Rattle.justfile_parse_header.specs.Tree.{value_tree}

bare_tree : (boxed : Option (Box Expression)) → option_map leaf_tree_of (option_map (λ (e : Box Expression). e.value) boxed) ≡ value_tree boxed
bare_tree None = refl
bare_tree (Some e) = refl

pub unboxed_tree : (boxed : Option (Box Expression)) (bare : Option Expression) → bare ≡ option_map (λ (e : Box Expression). e.value) boxed → option_map leaf_tree_of bare ≡ value_tree boxed
unboxed_tree boxed bare is = ap (option_map leaf_tree_of) is ∙ bare_tree boxed
