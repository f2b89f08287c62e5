use Rattle.justfiles.proofs.Told.{one_placed}
use Rattle.justfiles.proofs.located.locate_all.Goals as goal

pub loop-submodule-preserved : goal.loop-submodule-preserved
loop-submodule-preserved g c =
    one_placed g.F.Folders.has c.args.path.now c.args.submodules.now c.loop-submodule.submodule-index c.submodule-item.result _ _ c.in_ok-placed.placed c.loop-submodule-test.true c.submodule-item.is c.loop-submodule.invariant
    c.in_ok-placed.ensures c.in_ok-push.ensures.items
