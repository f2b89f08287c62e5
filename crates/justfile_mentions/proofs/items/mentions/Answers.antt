use Rattle.std.proofs.Common.{arith, rules}
use Rattle.justfile_mentions.proofs.Appended.{appended}
use Rattle.justfile_mentions.proofs.items.mentions.Goals as goal

pub loop-index-preserved : goal.loop-index-preserved
loop-index-preserved c = appended c.args.items.now c.loop-index.index _ _ _ _ (omega arith) (search rules) c.loop-index.invariant c.in_ok-own.ensures (search rules)
