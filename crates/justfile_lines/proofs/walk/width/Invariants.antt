use Rattle.std.proofs.Common.{◌≡◌, ◌*◌, ◌≤◌, take}
use Rattle.justfile_lines.specs.Positions.{width}
use Rattle.justfile_lines.proofs.walk.width.Given as goal

abbrev pub invariant-loop-byte : goal.invariant-loop-byte
invariant-loop-byte l = record { is : l.width ≡ width l.encoding (take l.byte-index l.text); bound : l.width ≤ 2 * l.byte-index }
