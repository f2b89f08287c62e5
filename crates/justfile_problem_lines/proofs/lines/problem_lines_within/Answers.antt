use Rattle.std.proofs.Common.{arith, ◌∙◌}
use Rattle.justfile_problems.specs.Errors.{IsErrorWithin}
use Rattle.justfile_problem_lines.proofs.Told.{adds_to, one_told}
use Rattle.justfile_problem_lines.proofs.lines.problem_lines_within.Goals as goal

pub loop-problem-preserved : goal.loop-problem-preserved
loop-problem-preserved c =
    let more = adds_to c.args.source.now (IsErrorWithin c.args.owner) c.loop-problem.cursor.source.now c.problem-item.result _ _ c.loop-problem.invariant.0 c.in_ok-push_problem.ensures.adds in
    (c.push_problem.ensures.source ∙ c.loop-problem.invariant.0, one_told c.args.source.now (IsErrorWithin c.args.owner) c.args.problems.now c.loop-problem.problem-index c.problem-item.result _ _ (omega arith) c.problem-item.is c.loop-problem.invariant.1 more)
