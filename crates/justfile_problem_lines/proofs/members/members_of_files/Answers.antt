use Rattle.std.proofs.Common.{ℕ, List, slice_get}
use Rattle.justfile_problem_lines.specs.Modules.{TellAny, TellMembers, is_overridden_at}
use Rattle.justfile_problem_lines.proofs.Parts.{one_at}
use Rattle.justfile_problem_lines.proofs.members.members_of_files.Goals as goal

pub loop-index-preserved : goal.loop-index-preserved
loop-index-preserved c =
    one_at (λ (index : ℕ) (part : List ℕ). TellAny (TellMembers c.args.rules (is_overridden_at c.args.files.now c.args.group.now index) c.args.all.now c.args.owner) (slice_get c.args.files.now index) part) c.args.group.now c.loop-index.index-index _ _ _ _ c.loop-index-test.true c.loop-index.invariant c.in_ok-part.ensures c.in_ok-append.ensures
