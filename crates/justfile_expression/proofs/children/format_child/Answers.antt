use Rattle.std.proofs.Common.{rules, ◌≡◌, ◌+◌, [], length, arith, codes}
use Rattle.justfile_expression.specs.Children.{then_part}
use Rattle.justfile_expression.proofs.Ended.{ended_past, ended_last, ended_inner}
use Rattle.justfile_expression.proofs.children.format_child.Goals as goal

pub returns-then-len-index-clause-child : goal.returns-then-len-index-clause-child
returns-then-len-index-clause-child c = ended_past (then_part (codes " ")) (then_part []) c.args.expressions.now.items c.args.index (omega arith)

pub returns-then-index-len-clause-child : goal.returns-then-index-len-clause-child
returns-then-index-len-clause-child c =
    rw c.part.ensures (ended_last (then_part (codes " ")) (then_part []) c.args.expressions.now.items c.args.index c.index.result.now (omega arith) (search rules) (omega arith))

pub returns-else-index-len-clause-child : goal.returns-else-index-len-clause-child
returns-else-index-len-clause-child c =
    rw c.part-else-index-len.ensures
    (ended_inner (then_part (codes " ")) (then_part []) c.args.expressions.now.items c.args.index c.index.result.now (omega arith) (search rules) (λ (m : c.args.index + 1 ≡ length c.args.expressions.now.items). omega arith))
