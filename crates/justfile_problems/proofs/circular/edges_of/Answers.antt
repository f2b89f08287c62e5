use Rattle.justfile_problems.proofs.Rings.{edges_more}
use Rattle.justfile_problems.proofs.circular.edges_of.Goals as goal

pub loop-step-preserved : goal.loop-step-preserved
loop-step-preserved c =
    edges_more c.args.steps.now c.loop-step.step-index c.step-item.result c.loop-step.edges.items _ c.loop-step-test.true c.step-item.is c.loop-step.invariant c.in_ok-push_edge.ensures
