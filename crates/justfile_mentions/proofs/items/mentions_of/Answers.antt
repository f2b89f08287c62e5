use Rattle.std.proofs.Common.{arith}
use Rattle.justfile_mentions.specs.Mentions.{to_note}
use Rattle.justfile_mentions.proofs.Appended.{noted_more}
use Rattle.justfile_mentions.proofs.items.mentions_of.Goals as goal

pub loop-reference-preserved : goal.loop-reference-preserved
loop-reference-preserved c =
    noted_more (to_note c.args.index c.args.defaults c.args.parameters.now) c.args.found.now c.loop-reference.reference-index c.reference-item.result (omega arith) c.reference-item.is _ _ _
    c.loop-reference.invariant c.in_ok-push.ensures.items c.in_ok-mention.ensures
