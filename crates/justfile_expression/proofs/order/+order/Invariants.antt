use Rattle.std.proofs.Common.{◌≡◌, ◌≤◌, ◌+◌, ◌*◌, max, length, drop}
use Rattle.std.specs.Cmp.Lexicographic.{slice_cmp}
use Rattle.std.specs.Ordering.{on, ordering_then}
use Rattle.justfile_model.specs.Trees.Key.{key_cmp}
use Rattle.justfile_expression.specs.Content.{leaf_order}
use Rattle.justfile_expression.specs.Order.{key, part_key}
use Rattle.justfile_expression.specs.declared.expression.Expression.{size-Expression}
use Rattle.justfile_expression.specs.declared.expression.Expression.TheShapes.{weighed-Expression-Assert-1}
use Rattle.justfile_expression.proofs.OrderSteps.{by_rest}
use Rattle.justfile_expression.proofs.RightSides.{chain_left}
use Rattle.justfile_expression.proofs.order.+order.Given as goal

abbrev pub decreases-compare : goal.decreases-compare
decreases-compare l = 6 * size-Expression l.expression.now + 1

abbrev pub decreases-compare_left : goal.decreases-compare_left
decreases-compare_left l = 6 * size-Expression l.expression.now

abbrev pub decreases-compare_options : goal.decreases-compare_options
decreases-compare_options l = 6 * goal.size-compare_options l + 2

abbrev pub decreases-compare_all : goal.decreases-compare_all
decreases-compare_all l = 6 * goal.size-compare_all l + 2

abbrev pub decreases-compare_parts : goal.decreases-compare_parts
decreases-compare_parts l = 6 * goal.size-compare_parts l + 2

abbrev pub decreases-compare_and : goal.decreases-compare_and
decreases-compare_and l = 6 * size-Expression l.lhs.now + 3

abbrev pub decreases-compare_assert : goal.decreases-compare_assert
decreases-compare_assert l = 6 * max (size-Expression l.condition.now) ((weighed-Expression-Assert-1).weight _ size-Expression l.message.now) + 3

abbrev pub decreases-compare_call : goal.decreases-compare_call
decreases-compare_call l = 6 * goal.size-compare_call l + 3

abbrev pub decreases-compare_comparison : goal.decreases-compare_comparison
decreases-compare_comparison l = 6 * size-Expression l.lhs.now + 3

abbrev pub decreases-compare_concatenation : goal.decreases-compare_concatenation
decreases-compare_concatenation l = 6 * size-Expression l.lhs.now + 3

abbrev pub decreases-compare_conditional : goal.decreases-compare_conditional
decreases-compare_conditional l = 6 * max (size-Expression l.condition.now) (size-Expression l.branch.now) + 3

abbrev pub decreases-compare_format_string : goal.decreases-compare_format_string
decreases-compare_format_string l = 6 * goal.size-compare_format_string l + 3

abbrev pub decreases-compare_group : goal.decreases-compare_group
decreases-compare_group l = 6 * goal.size-compare_group l + 3

abbrev pub decreases-compare_join : goal.decreases-compare_join
decreases-compare_join l = 6 * goal.size-compare_join l + 3

abbrev pub decreases-compare_list : goal.decreases-compare_list
decreases-compare_list l = 6 * goal.size-compare_list l + 3

abbrev pub decreases-compare_list_concatenation : goal.decreases-compare_list_concatenation
decreases-compare_list_concatenation l = 6 * size-Expression l.lhs.now + 3

abbrev pub decreases-compare_or : goal.decreases-compare_or
decreases-compare_or l = 6 * size-Expression l.lhs.now + 3

-- what is left of the two expressions, followed by what comes after it, is left to compare
abbrev pub invariant-compare-loop-rest : goal.invariant-compare-loop-rest
invariant-compare-loop-rest l = record {
  shallow : chain_left l.rest ≤ size-Expression l.expression + 1;
  same : ordering_then (by_rest (leaf_order l.leaves) l.rest l.other_rest) l.after ≡ key_cmp (leaf_order l.leaves) (key l.expression) (key l.other);
}

abbrev pub decreases-compare-loop-rest : goal.decreases-compare-loop-rest
decreases-compare-loop-rest l = chain_left l.rest

abbrev pub invariant-compare_all-loop-i : goal.invariant-compare_all-loop-i
invariant-compare_all-loop-i l = (l.i ≤ length l.others.items) × (slice_cmp (on key (key_cmp (leaf_order l.leaves))) (drop l.i l.expression-items) (drop l.i l.others.items) ≡ slice_cmp (on key (key_cmp (leaf_order l.leaves))) l.expression-items l.others.items)

abbrev pub invariant-compare_parts-loop-i : goal.invariant-compare_parts-loop-i
invariant-compare_parts-loop-i l = (l.i ≤ length l.others.items) × (slice_cmp (on part_key (key_cmp (leaf_order l.leaves))) (drop l.i l.expression-items) (drop l.i l.others.items) ≡ slice_cmp (on part_key (key_cmp (leaf_order l.leaves))) l.expression-items l.others.items)
