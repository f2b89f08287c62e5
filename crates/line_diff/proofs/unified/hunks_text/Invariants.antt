use Rattle.std.proofs.Common.{◌-◌, length, string_bytes}
use Rattle.line_diff.proofs.HunkLemmas.{Reached}
use Rattle.line_diff.proofs.unified.hunks_text.Given as goal

abbrev pub invariant-hunks : goal.invariant-hunks
invariant-hunks l = Reached l.edits l.from l.old_before l.new_before (string_bytes l.text)

abbrev pub decreases-hunks : goal.decreases-hunks
decreases-hunks l = length l.edits - l.from
