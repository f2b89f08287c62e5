use Rattle.std.proofs.Common.{take, max, ◌+◌, ◌*◌, length, reverse, Option}
use Rattle.std.specs.List.{All, AllZip}
use Rattle.justfile_expression.specs.Copies.{IsSameExpression, IsSamePart}
use Rattle.justfile_expression.specs.RightSides.{IsLessDeep, IsChain, IsCopied}
use Rattle.justfile_expression.specs.declared.expression.Expression.{Expression, size-Expression}
use Rattle.justfile_expression.proofs.expression.+copy.Given as goal

abbrev pub decreases-copy_node : goal.decreases-copy_node
decreases-copy_node l = 8 * size-Expression l.expression.now

abbrev pub decreases-box_copy : goal.decreases-box_copy
decreases-box_copy l = 8 * size-Expression l.expression.now + 1

abbrev pub decreases-Expression::clone : goal.decreases-Expression::clone
decreases-Expression::clone l = 8 * goal.size-Expression::clone l + 1

abbrev pub decreases-copy_boxed : goal.decreases-copy_boxed
decreases-copy_boxed l = 8 * goal.size-copy_boxed l + 2

abbrev pub decreases-copy_right : goal.decreases-copy_right
decreases-copy_right l = 8 * size-Expression l.expression.now + 3

-- the larger of the two sizes
abbrev pub decreases-copy_pair : goal.decreases-copy_pair
decreases-copy_pair l = 8 * max (size-Expression l.lhs.now) (size-Expression l.rhs.now) + 4

abbrev pub decreases-copy_option : goal.decreases-copy_option
decreases-copy_option l = 8 * goal.size-copy_option l + 4

abbrev pub decreases-copy_all : goal.decreases-copy_all
decreases-copy_all l = 8 * goal.size-copy_all l + 2

abbrev pub decreases-copy_parts : goal.decreases-copy_parts
decreases-copy_parts l = 8 * goal.size-copy_parts l + 3

abbrev pub decreases-copy_part : goal.decreases-copy_part
decreases-copy_part l = 8 * goal.size-copy_part l + 2

-- `copied` is a copy of the right side of the last expression that is left in the chain
abbrev pub invariant-copy_boxed-loop-next : goal.invariant-copy_boxed-loop-next
invariant-copy_boxed-loop-next l = record {
  right : Option Expression;
  in_chain : IsChain (reverse l.chain.items) l.expression right;
  smaller : All (IsLessDeep l.expression) l.chain.items;
  same : IsCopied l.copied right;
}

abbrev pub decreases-copy_boxed-loop-next : goal.decreases-copy_boxed-loop-next
decreases-copy_boxed-loop-next l = length l.chain.items

abbrev pub invariant-copy_all-loop-expression : goal.invariant-copy_all-loop-expression
invariant-copy_all-loop-expression l = AllZip IsSameExpression l.copies.items (take l.expression-index l.expression-items)

abbrev pub invariant-copy_parts-loop-expression : goal.invariant-copy_parts-loop-expression
invariant-copy_parts-loop-expression l = AllZip IsSamePart l.parts.items (take l.expression-index l.expression-items)
