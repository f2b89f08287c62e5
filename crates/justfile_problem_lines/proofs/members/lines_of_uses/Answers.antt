use Rattle.std.proofs.Common.{Some}
use Rattle.justfile_problem_lines.specs.Modules.{is_overridden_at}
use Rattle.justfile_problem_lines.proofs.Parts.{none_judged}
use Rattle.justfile_problem_lines.proofs.members.lines_of_uses.Goals as goal

pub returns-in-empty : goal.returns-in-empty
returns-in-empty c =
    none_judged (Some c.args.owner) c.args.rules (is_overridden_at c.args.files.now c.args.group.now c.args.index) c.args.all.now c.args.uses.now c.args.source.now _ c.in-empty.len_below c.new.ensures.bytes
