use Rattle.std.proofs.Common.{arith}
use Rattle.justfile_attribute_set.specs.Copies.{IsSamePair}
use Rattle.justfile_token.proofs.CopiedLists.{one_more}
use Rattle.justfile_attribute_set.proofs.copy.copy_pairs.Goals as goal

pub loop-pair-preserved : goal.loop-pair-preserved
loop-pair-preserved c =
    one_more IsSamePair c.loop-pair.copies.items c.args.pairs.now c.push.new.self.items c.loop-pair.pair-index c.in_ok-copy_pair.field-0 c.pair-item.result
    (omega arith) c.pair-item.is c.loop-pair.invariant c.in_ok-copy_pair.ensures c.in_ok-push.ensures.items
