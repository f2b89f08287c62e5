use Rattle.std.proofs.Common.{rules, ◌≡◌, ◌+◌, length, arith, codes}
use Rattle.justfile_expression.specs.Children.{then_text}
use Rattle.justfile_expression.proofs.Ended.{ended_past, ended_last, ended_inner}
use Rattle.justfile_expression.proofs.children.element_child.Goals as goal

pub returns-then-len-index-clause-child : goal.returns-then-len-index-clause-child
returns-then-len-index-clause-child c = ended_past (then_text (codes ", ")) (then_text c.args.closing.now) c.args.expressions.now.items c.args.index (omega arith)

pub returns-then-index-len-clause-child : goal.returns-then-index-len-clause-child
returns-then-index-len-clause-child c =
    rw c.piece.ensures (ended_last (then_text (codes ", ")) (then_text c.args.closing.now) c.args.expressions.now.items c.args.index c.index-expression.result.now (omega arith) (search rules) (omega arith))

pub returns-else-index-len-clause-child : goal.returns-else-index-len-clause-child
returns-else-index-len-clause-child c =
    rw c.piece-else-index-len.ensures
    (ended_inner (then_text (codes ", ")) (then_text c.args.closing.now) c.args.expressions.now.items c.args.index c.index-expression.result.now (omega arith) (search rules) (λ (m : c.args.index + 1 ≡ length c.args.expressions.now.items). omega arith))
