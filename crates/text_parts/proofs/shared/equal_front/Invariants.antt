use Rattle.std.proofs.Common.{◌≡◌, ◌*◌, take}
use Rattle.text_parts.proofs.shared.equal_front.Given as goal

abbrev pub invariant-loop-block : goal.invariant-loop-block
invariant-loop-block l = take (l.block * 256) l.old ≡ take (l.block * 256) l.new
