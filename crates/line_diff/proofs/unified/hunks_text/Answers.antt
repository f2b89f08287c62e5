use Rattle.line_diff.proofs.HunkLemmas.{ends, reached_more}
use Rattle.line_diff.proofs.unified.hunks_text.Goals as goal

pub hunks-preserved : goal.hunks-preserved
hunks-preserved c =
    let bounds = c.in-Some.ensures.bounds in
    let counts = c.line_counts-old.ensures in
    reached_more _ _ _ _ _ _ _ _ _ _ c.hunks.invariant c.in-Some.ensures.before c.in-Some.ensures.change bounds.0 bounds.1 bounds.2 c.in_ok-push_hunk.ensures
    counts.old counts.new counts.old_bound counts.new_bound

pub returns : goal.returns
returns c = ends _ _ _ _ _ c.hunks.invariant c.in_default.ensures.none
