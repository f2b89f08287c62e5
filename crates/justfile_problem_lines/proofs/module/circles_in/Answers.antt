use Rattle.justfile_problem_lines.proofs.Parts.{circles_told}
use Rattle.justfile_problem_lines.proofs.module.circles_in.Goals as goal

pub returns : goal.returns
returns c =
    circles_told c.args.file.now c.deref.result.now c.deref-2.result.now c.in_ok-circles.circles.items c.deref-3.result.now c.circle_lines.result c.deref.ensures.value c.deref-2.ensures.value c.deref-3.ensures.value
    c.in_ok-circles.ensures c.circle_lines.ensures
