use Rattle.std.proofs.Common.{◌≡◌, ◌*◌, ◌≤◌, take}
use Rattle.justfile_lines.specs.Positions.{feeds}
use Rattle.justfile_lines.proofs.walk.feeds.Given as goal

abbrev pub invariant-loop-block : goal.invariant-loop-block
invariant-loop-block l = record { is : l.count ≡ feeds (take (l.block * 64) l.text); bound : l.count ≤ l.block * 64 }

abbrev pub invariant-loop-at : goal.invariant-loop-at
invariant-loop-at l = record { is : l.count ≡ feeds (take l.at l.text); bound : l.count ≤ l.at }
