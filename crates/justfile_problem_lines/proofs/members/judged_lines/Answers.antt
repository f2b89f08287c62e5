use Rattle.std.proofs.Common.{[], Some, refl}
use Rattle.justfile_problems.specs.Overridden.{is_overridden_in}
use Rattle.justfile_problem_lines.proofs.Parts.{problems_told}
use Rattle.justfile_problem_lines.proofs.members.judged_lines.Goals as goal

pub returns : goal.returns
returns c =
    problems_told (Some c.args.owner) c.args.rules (is_overridden_in c.args.overridden.now) c.args.all.now [] _ c.args.uses.now _ [] _ c.args.source.now c.in_ok-problems.problems.items c.deref.result.now c.problem_lines_within.result refl refl refl
    c.deref.ensures.value c.in_ok-problems.ensures.all c.in_ok-problems.ensures.in_order c.problem_lines_within.ensures
