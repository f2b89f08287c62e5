use Rattle.std.proofs.Common.{arith}
use Rattle.line_diff.proofs.HunkLemmas.{kept_before, within_hunk}
use Rattle.line_diff.proofs.hunks.next_hunk.Goals as goal

pub returns-then-edits-last-gt-CONTEXT-clause-change : goal.returns-then-edits-last-gt-CONTEXT-clause-change
returns-then-edits-last-gt-CONTEXT-clause-change c =
    let bounds = c.in_ok-first.ensures.bounds in
    within_hunk c.args.edits.now _ c.in_ok-first.first _ (omega (arith, bounds.0)) (omega arith) (omega arith) c.in_ok-first.ensures.change

pub returns-else-edits-last-gt-CONTEXT-clause-before : goal.returns-else-edits-last-gt-CONTEXT-clause-before
returns-else-edits-last-gt-CONTEXT-clause-before c =
    let bounds = c.in_ok-first.ensures.bounds in
    kept_before c.args.edits.now c.args.from _ c.in_ok-first.first (omega (arith, bounds.0)) c.in_ok-first.ensures.before

pub returns-else-edits-last-gt-CONTEXT-clause-change : goal.returns-else-edits-last-gt-CONTEXT-clause-change
returns-else-edits-last-gt-CONTEXT-clause-change c =
    let bounds = c.in_ok-first.ensures.bounds in
    within_hunk c.args.edits.now _ c.in_ok-first.first _ (omega (arith, bounds.0)) (omega (arith, bounds.1)) (omega arith) c.in_ok-first.ensures.change
