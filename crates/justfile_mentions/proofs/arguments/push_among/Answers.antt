use Rattle.std.proofs.Common.{arith}
use Rattle.justfile_references.proofs.Gathered.{gathered}
use Rattle.justfile_mentions.specs.Arguments.{named_of}
use Rattle.justfile_mentions.proofs.arguments.push_among.Goals as goal

pub loop-pair-preserved : goal.loop-pair-preserved
loop-pair-preserved c =
    gathered c.args.pairs.now c.loop-pair.pair-index c.pair-item.result (omega arith) c.pair-item.is _ _ _ (named_of c.args.index) c.loop-pair.invariant c.in_ok-push_named.ensures
