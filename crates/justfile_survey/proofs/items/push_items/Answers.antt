use Rattle.std.proofs.Common.{arith, length}
use Rattle.justfile_survey.proofs.Added.{one_more}
use Rattle.justfile_survey.proofs.items.push_items.Goals as goal

pub loop-item-preserved : goal.loop-item-preserved
loop-item-preserved c =
    one_more (length c.args.part.text.now) c.args.part.base c.args.items.now c.loop-item.item-index c.item-item.result (omega arith) c.item-item.is _ _ _ c.loop-item.invariant
    c.in_ok-push_item.ensures
