use Rattle.std.proofs.Common.{length, ◌-◌}
use Rattle.justfile_scan.specs.RawTexts.{is_plain}
use Rattle.justfile_scan.proofs.LaneLemmas.{IsRunTo}
use Rattle.justfile_scan.proofs.raw_text.plain_len_of.Given as goal

abbrev pub invariant-loads : goal.invariant-loads
invariant-loads l = IsRunTo (is_plain l.text) l.bytes l.at

abbrev pub decreases-loads : goal.decreases-loads
decreases-loads l = length l.bytes - l.at

abbrev pub invariant-loop-at : goal.invariant-loop-at
invariant-loop-at l = IsRunTo (is_plain l.text) l.bytes l.at

abbrev pub decreases-loop-at : goal.decreases-loop-at
decreases-loop-at l = length l.bytes - l.at
