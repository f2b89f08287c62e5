use Rattle.std.proofs.Common.{arith}
use Rattle.justfile_token.specs.StringLiteral.{IsSameLiteral}
use Rattle.justfile_token.proofs.CopiedLists.{one_more}
use Rattle.justfile_attribute.proofs.copy.copy_literals.Goals as goal

pub loop-literal-preserved : goal.loop-literal-preserved
loop-literal-preserved c =
    one_more IsSameLiteral c.loop-literal.copies.items c.deref-literal-items.result.now c.push.new.self.items c.loop-literal.literal-index c.in_ok-copy.copy c.literal-item.result
    (omega arith) c.literal-item.is c.loop-literal.invariant c.in_ok-copy.ensures c.in_ok-push.ensures.items
