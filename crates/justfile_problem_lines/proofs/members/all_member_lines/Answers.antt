use Rattle.justfile_problem_lines.specs.Modules.{TellMembersAt}
use Rattle.justfile_problem_lines.proofs.Parts.{one_told}
use Rattle.justfile_problem_lines.proofs.members.all_member_lines.Goals as goal

pub loop-link-preserved : goal.loop-link-preserved
loop-link-preserved c =
    one_told (TellMembersAt c.args.files.now c.args.links.now c.args.group.now) c.args.links.now c.loop-link.link-index c.link-item.result _ _ _ c.loop-link-test.true c.link-item.is c.loop-link.invariant c.in_ok-part.ensures
    c.in_ok-append.ensures
