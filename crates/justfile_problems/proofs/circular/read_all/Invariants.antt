use Rattle.std.proofs.Common.{take}
use Rattle.std.specs.List.{AllZip}
use Rattle.justfile_problems.specs.Circular.{IsRead}
use Rattle.justfile_problems.proofs.circular.read_all.Given as goal

abbrev pub invariant-loop-ring : goal.invariant-loop-ring
invariant-loop-ring l = AllZip (IsRead l.steps) (take l.ring-index l.rings) l.found.items
