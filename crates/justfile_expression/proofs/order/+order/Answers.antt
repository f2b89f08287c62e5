use Rattle.std.proofs.Common.{◌∙◌, ap, sym, rules, arith}
use Rattle.std.specs.Ordering.{on}
use Rattle.justfile_model.specs.Trees.Key.{key_cmp}
use Rattle.justfile_expression.specs.Content.{leaf_order}
use Rattle.justfile_model.specs.Trees.KeyLaws.{then_end}
use Rattle.justfile_expression.specs.Order.{key, part_key}
use Rattle.justfile_expression.specs.OrderSteps.{left_key}
use Rattle.justfile_expression.proofs.Compared.{at_end, from_assert, from_call, from_conditional, from_format, from_list, both_asserts, both_calls, both_conditionals, both_formats, both_lists}
use Rattle.justfile_expression.proofs.OrderSteps.{decided, first_ended, next_two, no_difference, second_ended, stepped}
use Rattle.justfile_expression.proofs.RightSides.{falls, next_shallow, chain_left}
use Rattle.justfile_expression.proofs.order.+order.Goals as goal

pub compare_left-returns-in-Call : goal.compare_left-returns-in-Call
compare_left-returns-in-Call t c = rw c.in-Call.is (from_call (leaf_order c.args.leaves) c.in-Call.name c.in-Call.arguments (left_key c.args.other.now) _ c.compare_call.ensures)

pub compare_left-returns-in-FormatString : goal.compare_left-returns-in-FormatString
compare_left-returns-in-FormatString t c = rw c.in-FormatString.is (from_format (leaf_order c.args.leaves) c.in-FormatString.start c.in-FormatString.expressions (left_key c.args.other.now) _ c.compare_format_string.ensures)

pub compare_left-returns-in-List : goal.compare_left-returns-in-List
compare_left-returns-in-List t c = rw c.in-List.is (from_list (leaf_order c.args.leaves) c.in-List.elements c.in-List.opener (left_key c.args.other.now) _ c.compare_list.ensures)

pub compare_call-returns-in-Call : goal.compare_call-returns-in-Call
compare_call-returns-in-Call t c =
    rw c.in-Call.is
    (both_calls (leaf_order c.args.leaves) c.args.name.now c.in-Call.other_name c.args.arguments.now.items c.in-Call.other_arguments _ _ _ c.tokens.ensures c.compare_all.ensures c.then.ensures)

pub compare_format_string-returns-in-FormatString : goal.compare_format_string-returns-in-FormatString
compare_format_string-returns-in-FormatString t c =
    rw c.in-FormatString.is
    (both_formats (leaf_order c.args.leaves) c.args.start.now c.in-FormatString.other_start c.args.expressions.now.items c.in-FormatString.other_expressions _ _ _ c.literals.ensures c.compare_parts.ensures c.then.ensures)

pub compare_list-returns-in-List : goal.compare_list-returns-in-List
compare_list-returns-in-List t c =
    rw c.in-List.is
    (both_lists (leaf_order c.args.leaves) c.args.opener.now c.in-List.other_opener c.args.elements.now.items c.in-List.other_elements _ _ _ c.compare_all.ensures c.tokens.ensures c.then.ensures)

pub compare_all-returns : goal.compare_all-returns
compare_all-returns t c =
    at_end (on key (key_cmp (leaf_order c.args.leaves))) c.args.expressions.now.items c.deref-expression-items.result.now c.args.others.now.items c.loop-i.i c.len-2.result c.len-3.result c.cmp.result
    (search rules) (search rules) (search rules) c.loop-i-test.false (search rules) c.loop-i.invariant.0 c.loop-i.invariant.1 c.cmp.ensures

pub compare_parts-returns : goal.compare_parts-returns
compare_parts-returns t c =
    at_end (on part_key (key_cmp (leaf_order c.args.leaves))) c.args.expressions.now.items c.deref-expression-items.result.now c.args.others.now.items c.loop-i.i c.len-2.result c.len-3.result c.cmp.result
    (search rules) (search rules) (search rules) c.loop-i-test.false (search rules) c.loop-i.invariant.0 c.loop-i.invariant.1 c.cmp.ensures

pub compare_left-returns-in-Assert : goal.compare_left-returns-in-Assert
compare_left-returns-in-Assert t c =
    rw c.in-Assert.is
    (from_assert (leaf_order c.args.leaves) c.in-Assert.condition c.in-Assert.message c.in-Assert.name (left_key c.args.other.now) _
    (rw c.deref-in-Assert.ensures at c.compare_assert.ensures))

pub compare_left-returns-in-Conditional : goal.compare_left-returns-in-Conditional
compare_left-returns-in-Conditional t c =
    rw c.in-Conditional.is
    (from_conditional (leaf_order c.args.leaves) c.in-Conditional.condition c.in-Conditional.branch c.in-Conditional.otherwise (left_key c.args.other.now) _
    (rw (c.deref-in-Conditional.ensures, c.deref-in-Conditional-2.ensures) at c.compare_conditional.ensures))

pub compare_assert-returns-in-Assert : goal.compare_assert-returns-in-Assert
compare_assert-returns-in-Assert t c =
    rw c.in-Assert.is
    (both_asserts (leaf_order c.args.leaves) c.args.condition.now c.args.message.now c.args.name.now c.in-Assert.other_condition c.in-Assert.other_message
    c.in-Assert.other_name _ _ _ _ _ (rw c.deref.ensures at c.compare.ensures) c.compare_options.ensures c.tokens.ensures c.then.ensures
    c.then-in-Assert.ensures)

pub compare_conditional-returns-in-Conditional : goal.compare_conditional-returns-in-Conditional
compare_conditional-returns-in-Conditional t c =
    rw c.in-Conditional.is
    (both_conditionals (leaf_order c.args.leaves) c.args.condition.now c.args.branch.now c.args.otherwise.now c.in-Conditional.other_condition
    c.in-Conditional.other_branch c.in-Conditional.other_otherwise _ _ _ _ _ (rw c.deref.ensures at c.compare.ensures)
    (rw c.deref-in-Conditional.ensures at c.compare-in-Conditional.ensures) c.compare_presence.ensures c.then.ensures c.then-in-Conditional.ensures)

pub compare-loop-rest-init : goal.compare-loop-rest-init
compare-loop-rest-init t c = record { shallow = omega arith; same = then_end _ }

pub compare-compare_left-order-requires : goal.compare-compare_left-order-requires
compare-compare_left-order-requires t c = omega (arith, next_shallow c.loop-rest.rest c.in-Some.next _ c.in-Some.is c.loop-rest.invariant.shallow, c.decreases)

pub compare-loop-rest-smaller : goal.compare-loop-rest-smaller
compare-loop-rest-smaller t c = omega (arith, falls c.in-Some.next.now c.right_side-rest.result c.right_side-rest.ensures.smaller, ap chain_left c.in-Some.is)

pub compare-loop-rest-preserved : goal.compare-loop-rest-preserved
compare-loop-rest-preserved t c = record {
  shallow = omega (arith, falls c.in-Some.next.now c.right_side-rest.result c.right_side-rest.ensures.smaller, next_shallow c.loop-rest.rest c.in-Some.next _ c.in-Some.is c.loop-rest.invariant.shallow);
  same =
      stepped (leaf_order c.args.leaves) c.in-Some.next.now c.in-Some-other_rest.other_next.now c.right_side-rest.result c.right_side-other_rest.result
      c.compare_left-order.result c.compare_after.result c.loop-rest.after c.then-after.result _ c.compare_left-order.ensures (no_difference c.compare_left-order.result (sym c.is_ne.ensures ∙ c.if-is_ne.false))
      c.right_side-rest.ensures.right_side c.right_side-other_rest.ensures.right_side c.compare_after.ensures c.then-after.ensures
      (next_two (leaf_order c.args.leaves) c.loop-rest.rest c.loop-rest.other_rest c.in-Some.next c.in-Some-other_rest.other_next c.loop-rest.after _ c.in-Some.is c.in-Some-other_rest.is c.loop-rest.invariant.same);
}

pub compare-returns-in_default-other_rest : goal.compare-returns-in_default-other_rest
compare-returns-in_default-other_rest t c =
    second_ended (leaf_order c.args.leaves) c.loop-rest.rest c.loop-rest.other_rest c.in-Some.next c.loop-rest.after _ c.in-Some.is c.in_default-other_rest.is c.loop-rest.invariant.same

pub compare-returns-then-is_ne : goal.compare-returns-then-is_ne
compare-returns-then-is_ne t c =
    decided (leaf_order c.args.leaves) c.in-Some.next.now c.in-Some-other_rest.other_next.now c.compare_left-order.result c.loop-rest.after _ c.compare_left-order.ensures (sym c.is_ne.ensures ∙ c.if-is_ne.true)
    (next_two (leaf_order c.args.leaves) c.loop-rest.rest c.loop-rest.other_rest c.in-Some.next c.in-Some-other_rest.other_next c.loop-rest.after _ c.in-Some.is c.in-Some-other_rest.is c.loop-rest.invariant.same)

pub compare-returns : goal.compare-returns
compare-returns t c = first_ended (leaf_order c.args.leaves) c.loop-rest.rest c.loop-rest.other_rest c.loop-rest.after _ c.in_default.is c.loop-rest.invariant.same
