use Rattle.justfile_problems.specs.Overridden.{is_overridden_in}
use Rattle.justfile_problem_lines.specs.Modules.{is_overridden_at}
use Rattle.justfile_problem_lines.proofs.Parts.{part_by}
use Rattle.justfile_problem_lines.proofs.module.part.Goals as goal

pub returns : goal.returns
returns c =
    part_by c.judged_part.result c.args.rules (is_overridden_in c.in_ok-overridden.overridden) (is_overridden_at c.args.files.now c.args.group.now c.args.index) c.args.all.now c.args.file.now c.in_ok-overridden.ensures
    c.judged_part.ensures
