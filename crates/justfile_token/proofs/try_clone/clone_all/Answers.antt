use Rattle.std.proofs.Common.{arith}
use Rattle.justfile_token.proofs.CopiedLists.{one_more}
use Rattle.justfile_token.proofs.try_clone.clone_all.Goals as goal

pub loop-original-preserved : goal.loop-original-preserved
loop-original-preserved g c =
    one_more g.T.TryClone.is_copy c.loop-original.copies.items c.args.originals.now c.push.new.self.items c.loop-original.original-index c.in_ok-try_clone.field-0 c.original-item.result
    (omega arith) c.original-item.is c.loop-original.invariant c.in_ok-try_clone.ensures c.in_ok-push.ensures.items
