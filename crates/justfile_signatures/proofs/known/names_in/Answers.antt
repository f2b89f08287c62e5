use Rattle.justfile_signatures.specs.Known.{shown}
use Rattle.justfile_signatures.proofs.Named.{named_more}
use Rattle.justfile_signatures.proofs.known.names_in.Goals as goal

pub loop-mention-preserved : goal.loop-mention-preserved
loop-mention-preserved c =
    named_more c.args.mentions.now c.loop-mention.mention-index c.mention-item.result (shown c.loop-mention.names.items) (shown c.push_name.new.names.items) c.loop-mention-test.true
    c.mention-item.is c.loop-mention.invariant c.in_ok-push_name.ensures
