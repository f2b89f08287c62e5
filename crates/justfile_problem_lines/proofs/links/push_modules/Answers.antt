use Rattle.justfile_problem_lines.specs.Links.{module_link}
use Rattle.justfile_problem_lines.proofs.More.{one_later}
use Rattle.justfile_problem_lines.proofs.links.push_modules.Goals as goal

pub loop-submodule-preserved : goal.loop-submodule-preserved
loop-submodule-preserved c =
    one_later (module_link c.args.files.now c.args.missing.now c.args.from) c.args.modules.now c.loop-submodule.submodule-index c.submodule-item.result c.args.links.now.items c.loop-submodule.links.items _
    c.loop-submodule-test.true c.submodule-item.is c.loop-submodule.invariant c.in_ok-push_module.ensures
