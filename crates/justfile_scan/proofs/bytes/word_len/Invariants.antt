use Rattle.std.proofs.Common.{length, ◌-◌}
use Rattle.justfile_model.specs.Lexing.Bytes.{is_name_byte}
use Rattle.justfile_scan.proofs.LaneLemmas.{IsRunTo}
use Rattle.justfile_scan.proofs.bytes.word_len.Given as goal

abbrev pub invariant-loads : goal.invariant-loads
invariant-loads l = IsRunTo is_name_byte l.bytes l.at

abbrev pub decreases-loads : goal.decreases-loads
decreases-loads l = length l.bytes - l.at

abbrev pub invariant-loop-at : goal.invariant-loop-at
invariant-loop-at l = IsRunTo is_name_byte l.bytes l.at

abbrev pub decreases-loop-at : goal.decreases-loop-at
decreases-loop-at l = length l.bytes - l.at
