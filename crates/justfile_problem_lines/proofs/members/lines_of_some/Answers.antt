use Rattle.std.proofs.Common.{Some}
use Rattle.justfile_problems.specs.Overridden.{is_overridden_in}
use Rattle.justfile_problem_lines.specs.Modules.{is_overridden_at}
use Rattle.justfile_problem_lines.proofs.Parts.{judged_by}
use Rattle.justfile_problem_lines.proofs.members.lines_of_some.Goals as goal

pub returns : goal.returns
returns c =
    judged_by c.judged_lines.result (Some c.args.owner) c.args.rules (is_overridden_in c.in_ok-overridden.overridden) (is_overridden_at c.args.files.now c.args.group.now c.args.index) c.args.all.now c.args.uses.now c.args.source.now
    c.in_ok-overridden.ensures c.judged_lines.ensures
