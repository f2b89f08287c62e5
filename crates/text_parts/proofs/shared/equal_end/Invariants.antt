use Rattle.std.proofs.Common.{◌≡◌, ◌-◌, ◌*◌, length, drop}
use Rattle.text_parts.proofs.shared.equal_end.Given as goal

abbrev pub invariant-loop-block : goal.invariant-loop-block
invariant-loop-block l = drop (length l.old - l.block * 256) l.old ≡ drop (length l.new - l.block * 256) l.new
