use Rattle.std.proofs.Common.{None, Some, sym, ◌∙◌, arith}
use Rattle.justfile_expression.specs.Copies.{IsSameExpression, IsSamePart}
use Rattle.justfile_token.proofs.CopiedLists.{one_more}
use Rattle.justfile_expression.proofs.ExpressionCopies.{same_call, same_list, same_format_string}
use Rattle.justfile_expression.specs.RightSides.{right_side}
use Rattle.justfile_expression.proofs.RightSides.{popped, popped_deep, emptied, copied}
use Rattle.justfile_expression.proofs.expression.+copy.Goals as goal

pub copy_node-returns-in-Call : goal.copy_node-returns-in-Call
copy_node-returns-in-Call t c = rw c.in-Call.is (same_call c.in-Call.name c.in_ok-copy_all-in-Call.field-0 c.in-Call.arguments c.in_ok-copy_all-in-Call.ensures)

pub copy_node-returns-in-FormatString : goal.copy_node-returns-in-FormatString
copy_node-returns-in-FormatString t c =
    rw c.in-FormatString.is (same_format_string c.in_ok-clone-in-FormatString.field-0 c.in-FormatString.start c.in_ok-copy_parts-in-FormatString.field-0 c.in-FormatString.expressions
    c.in_ok-clone-in-FormatString.ensures c.in_ok-copy_parts-in-FormatString.ensures)

pub copy_node-returns-in-List : goal.copy_node-returns-in-List
copy_node-returns-in-List t c = rw c.in-List.is (same_list c.in-List.opener c.in_ok-copy_all-in-List.field-0 c.in-List.elements c.in_ok-copy_all-in-List.ensures)

pub copy_all-loop-expression-preserved : goal.copy_all-loop-expression-preserved
copy_all-loop-expression-preserved t c =
    one_more IsSameExpression c.loop-expression.copies.items c.deref-expression-items.result.now c.push.new.self.items c.loop-expression.expression-index c.in_ok-copy.copy c.expression-item.result
    (omega arith) c.expression-item.is c.loop-expression.invariant c.in_ok-copy.ensures c.in_ok-push.ensures.items

pub copy_parts-loop-expression-preserved : goal.copy_parts-loop-expression-preserved
copy_parts-loop-expression-preserved t c =
    one_more IsSamePart c.loop-expression.parts.items c.deref-expression-items.result.now c.push.new.self.items c.loop-expression.expression-index c.in_ok-part.part c.loop-expression-item.result
    (omega arith) c.loop-expression-item.is c.loop-expression.invariant c.in_ok-part.ensures c.in_ok-push.ensures.items

pub copy_boxed-loop-next-init : goal.copy_boxed-loop-next-init
copy_boxed-loop-next-init t c = record { right = None; in_chain = c.in_ok-chain.ensures.in_chain; smaller = c.in_ok-chain.ensures.smaller; same = tt }

pub copy_boxed-box_copy-requires : goal.copy_boxed-box_copy-requires
copy_boxed-box_copy-requires t c =
    let last = popped c.loop-next.chain.items c.pop.new.self.items c.in-Some.next c.args.expression.now c.loop-next.invariant.right c.in-Some.ensures.items c.loop-next.invariant.in_chain in
    let below = popped_deep c.loop-next.chain.items c.pop.new.self.items c.in-Some.next c.args.expression.now c.in-Some.ensures.items c.loop-next.invariant.smaller in
    (omega (arith, below.1, c.decreases), copied c.loop-next.copied c.loop-next.invariant.right (right_side c.in-Some.next.now) last.0 c.loop-next.invariant.same)

pub copy_boxed-loop-next-preserved : goal.copy_boxed-loop-next-preserved
copy_boxed-loop-next-preserved t c =
    let last = popped c.loop-next.chain.items c.pop.new.self.items c.in-Some.next c.args.expression.now c.loop-next.invariant.right c.in-Some.ensures.items c.loop-next.invariant.in_chain in
    let below = popped_deep c.loop-next.chain.items c.pop.new.self.items c.in-Some.next c.args.expression.now c.in-Some.ensures.items c.loop-next.invariant.smaller in
    record { right = Some c.in-Some.next.now; in_chain = last.1; smaller = below.0; same = c.in_ok-box_copy.ensures }

pub copy_boxed-box_copy-requires-2 : goal.copy_boxed-box_copy-requires-2
copy_boxed-box_copy-requires-2 t c =
    let last = emptied c.loop-next.chain.items c.args.expression.now c.loop-next.invariant.right (sym c.loop-next.chain.ok.0 ∙ c.in_default.ensures.cases.0) c.loop-next.invariant.in_chain in
    (omega (arith, c.decreases), copied c.loop-next.copied c.loop-next.invariant.right (right_side c.args.expression.now) last c.loop-next.invariant.same)
