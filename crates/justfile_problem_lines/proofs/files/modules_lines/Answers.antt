use Rattle.std.proofs.Common.{◌&&◌, ℕ, List, nat_eq}
use Rattle.justfile_problem_lines.specs.Modules.{TellModule}
use Rattle.justfile_problem_lines.proofs.Parts.{one_at}
use Rattle.justfile_problem_lines.proofs.files.modules_lines.Goals as goal

pub loop-index-preserved : goal.loop-index-preserved
loop-index-preserved c =
    one_at (λ (index : ℕ) (part : List ℕ). TellModule (c.args.imported && nat_eq index 0) c.args.files.now c.args.links.now index part) c.args.first.now c.loop-index.index-index _ _ _ _ c.loop-index-test.true c.loop-index.invariant c.in_ok-part.ensures c.in_ok-append.ensures
