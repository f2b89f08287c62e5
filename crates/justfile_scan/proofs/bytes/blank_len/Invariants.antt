use Rattle.std.proofs.Common.{length, ◌-◌}
use Rattle.justfile_model.specs.Lexing.Bytes.{is_blank}
use Rattle.justfile_scan.proofs.LaneLemmas.{IsRunTo}
use Rattle.justfile_scan.proofs.bytes.blank_len.Given as goal

abbrev pub invariant-loop-at : goal.invariant-loop-at
invariant-loop-at l = IsRunTo is_blank l.bytes l.at

abbrev pub decreases-loop-at : goal.decreases-loop-at
decreases-loop-at l = length l.bytes - l.at
