use Rattle.justfile_problems.proofs.Rings.{read_one}
use Rattle.justfile_problems.proofs.circular.read_all.Goals as goal

pub loop-ring-preserved : goal.loop-ring-preserved
loop-ring-preserved c =
    read_one c.args.steps.now c.args.rings.now c.loop-ring.ring-index c.ring-item.result c.loop-ring.found.items _ c.in_ok-circle.circle c.loop-ring-test.true c.ring-item.is c.loop-ring.invariant c.in_ok-circle.ensures
    c.in_ok-push.ensures.items
