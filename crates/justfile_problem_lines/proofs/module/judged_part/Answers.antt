use Rattle.std.proofs.Common.{None}
use Rattle.justfile_problems.specs.Overridden.{is_overridden_in}
use Rattle.justfile_problem_lines.proofs.Parts.{problems_told}
use Rattle.justfile_problem_lines.proofs.module.judged_part.Goals as goal

pub returns : goal.returns
returns c =
    problems_told None c.args.rules (is_overridden_in c.args.overridden.now) c.args.all.now _ c.deref.result.now _ c.deref-2.result.now _ c.deref-3.result.now c.args.file.now.source.now c.in_ok-problems.problems.items c.deref-4.result.now c.problem_lines.result c.deref.ensures.value
    c.deref-2.ensures.value c.deref-3.ensures.value c.deref-4.ensures.value c.in_ok-problems.ensures.all c.in_ok-problems.ensures.in_order c.problem_lines.ensures
