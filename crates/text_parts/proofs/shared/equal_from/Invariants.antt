use Rattle.std.proofs.Common.{◌≡◌, take}
use Rattle.text_parts.proofs.shared.equal_from.Given as goal

abbrev pub invariant-loop-count : goal.invariant-loop-count
invariant-loop-count l = take l.count l.old ≡ take l.count l.new
