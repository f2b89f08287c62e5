use Rattle.std.proofs.Common.{take}
use Rattle.justfile_problems.specs.Names.{IsTable}
use Rattle.justfile_problems.proofs.names.table.Given as goal

abbrev pub invariant-loop-definition : goal.invariant-loop-definition
invariant-loop-definition l = IsTable (take l.definition-index l.definitions) l.table
