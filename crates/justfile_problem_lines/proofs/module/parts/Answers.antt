use Rattle.std.proofs.Common.{ℕ, List, slice_get}
use Rattle.justfile_problem_lines.specs.Modules.{TellAny, TellPart, is_overridden_at}
use Rattle.justfile_problem_lines.proofs.Parts.{one_at}
use Rattle.justfile_problem_lines.proofs.module.parts.Goals as goal

pub loop-index-preserved : goal.loop-index-preserved
loop-index-preserved c =
    one_at (λ (index : ℕ) (part : List ℕ). TellAny (TellPart c.args.rules (is_overridden_at c.args.files.now c.args.group.now index) c.args.all.now) (slice_get c.args.files.now index) part) c.args.group.now c.loop-index.index-index _ _ _ _ c.loop-index-test.true
    c.loop-index.invariant c.in_ok-part.ensures c.in_ok-append.ensures
