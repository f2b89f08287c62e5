use Rattle.std.proofs.Common.{◌≡◌}
use Rattle.justfile_model.specs.Grammars.Expressions.{ends_open}
use Rattle.justfile_expression.specs.LeafTree.{leaf_tree_of}
use Rattle.justfile_expression.specs.declared.expression.Expression.{size-Expression}
use Rattle.justfile_parse_expression.proofs.conditional.ends_open.Given as goal

abbrev pub invariant-branches : goal.invariant-branches
invariant-branches l = ends_open (leaf_tree_of l.last) ≡ ends_open (leaf_tree_of l.fn.expression)

abbrev pub decreases-branches : goal.decreases-branches
decreases-branches l = size-Expression l.last
