use Rattle.std.proofs.Common.{arith}
use Rattle.justfile_token.proofs.CopiedLists.{one_more}
use Rattle.justfile_expression.specs.Copies.{IsSameExpression}
use Rattle.justfile_attribute.proofs.interpreters.copy_expressions.Goals as goal

pub loop-expression-preserved : goal.loop-expression-preserved
loop-expression-preserved c =
    one_more IsSameExpression c.loop-expression.copies.items c.args.expressions.now c.push.new.self.items c.loop-expression.expression-index c.in_ok-clone.field-0 c.expression-item.result
    (omega arith) c.expression-item.is c.loop-expression.invariant c.in_ok-clone.ensures c.in_ok-push.ensures.items
