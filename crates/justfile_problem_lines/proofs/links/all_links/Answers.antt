use Rattle.std.proofs.Common.{[]}
use Rattle.justfile_problem_lines.specs.Links.{file_links}
use Rattle.justfile_problem_lines.proofs.More.{one_later}
use Rattle.justfile_problem_lines.proofs.links.all_links.Goals as goal

pub loop-file-preserved : goal.loop-file-preserved
loop-file-preserved c =
    one_later (file_links c.args.files.now c.args.missing.now) c.args.files.now c.loop-file.file-index c.file-item.result [] c.loop-file.links.items _ c.loop-file-test.true c.file-item.is c.loop-file.invariant
    c.in_ok-push_links.ensures
