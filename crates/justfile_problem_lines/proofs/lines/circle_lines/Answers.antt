use Rattle.std.proofs.Common.{arith, ◌∙◌}
use Rattle.justfile_problems.specs.Circular.{IsErrorOfCircle}
use Rattle.justfile_problem_lines.proofs.Told.{adds_to, one_told}
use Rattle.justfile_problem_lines.proofs.lines.circle_lines.Goals as goal

pub loop-circle-preserved : goal.loop-circle-preserved
loop-circle-preserved c =
    let more = adds_to c.args.source.now IsErrorOfCircle c.loop-circle.cursor.source.now c.circle-item.result _ _ c.loop-circle.invariant.0 c.in_ok-push_circle.ensures.adds in
    (c.push_circle.ensures.source ∙ c.loop-circle.invariant.0, one_told c.args.source.now IsErrorOfCircle c.args.circles.now c.loop-circle.circle-index c.circle-item.result _ _ (omega arith) c.circle-item.is c.loop-circle.invariant.1 more)
