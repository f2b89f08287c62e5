use Rattle.std.proofs.Common.{take}
use Rattle.justfile_problems.specs.Circular.{HasLasts}
use Rattle.justfile_problems.proofs.nodes.Nodes.of.Given as goal

abbrev pub invariant-loop-index : goal.invariant-loop-index
invariant-loop-index l = HasLasts (take l.index l.definitions) l.table
