use Rattle.justfile_problem_lines.specs.Links.{link_of}
use Rattle.justfile_problem_lines.proofs.More.{one_later}
use Rattle.justfile_problem_lines.proofs.links.push_imports.Goals as goal

pub loop-import-preserved : goal.loop-import-preserved
loop-import-preserved c =
    one_later (link_of c.args.files.now c.args.missing.now c.args.from c.args.path.now) c.args.imports.now c.loop-import.import-index c.import-item.result c.args.links.now.items c.loop-import.links.items _
    c.loop-import-test.true c.import-item.is c.loop-import.invariant c.in_ok-push_link.ensures
