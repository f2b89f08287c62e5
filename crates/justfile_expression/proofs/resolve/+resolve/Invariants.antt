use Rattle.std.proofs.Common.{◌≤◌, ◌+◌, ◌*◌, take}
use Rattle.std.specs.List.{AllZip}
use Rattle.justfile_expression.specs.Resolved.{IsResolved, IsResolvedPart, numbers_of}
use Rattle.justfile_expression.specs.declared.expression.Expression.{size-Expression}
use Rattle.justfile_expression.proofs.ResolvedSteps.{IsWithin}
use Rattle.justfile_expression.proofs.resolve.+resolve.Given as goal

abbrev pub decreases-resolve : goal.decreases-resolve
decreases-resolve l = 5 * size-Expression l.expression.now + 3

abbrev pub decreases-resolve_chain : goal.decreases-resolve_chain
decreases-resolve_chain l = 5 * size-Expression l.expression.now + 2

abbrev pub decreases-resolve_left : goal.decreases-resolve_left
decreases-resolve_left l = 5 * size-Expression l.expression.now

abbrev pub decreases-resolve_option : goal.decreases-resolve_option
decreases-resolve_option l = 5 * goal.size-resolve_option l + 4

abbrev pub decreases-resolve_all : goal.decreases-resolve_all
decreases-resolve_all l = 5 * goal.size-resolve_all l + 4

abbrev pub decreases-resolve_parts : goal.decreases-resolve_parts
decreases-resolve_parts l = 5 * goal.size-resolve_parts l + 4

-- within its parents, the expression that is left is the whole
abbrev pub invariant-resolve_chain-loop-expression : goal.invariant-resolve_chain-loop-expression
invariant-resolve_chain-loop-expression l = record {
  shallow : size-Expression l.expression ≤ size-Expression l.initial.expression;
  whole : IsWithin (numbers_of l.numbers) l.parents l.expression l.initial.expression;
}

abbrev pub decreases-resolve_chain-loop-expression : goal.decreases-resolve_chain-loop-expression
decreases-resolve_chain-loop-expression l = size-Expression l.expression

abbrev pub invariant-resolve_all-loop-expression : goal.invariant-resolve_all-loop-expression
invariant-resolve_all-loop-expression l =
    goal.unvisited-resolve_all-loop-expression l × AllZip (IsResolved (numbers_of l.numbers)) (take l.expression-index l.expression-items) (take l.expression-index l.initial.expression-items)

abbrev pub invariant-resolve_parts-loop-part : goal.invariant-resolve_parts-loop-part
invariant-resolve_parts-loop-part l =
    goal.unvisited-resolve_parts-loop-part l × AllZip (IsResolvedPart (numbers_of l.numbers)) (take l.part-index l.part-items) (take l.part-index l.initial.part-items)
