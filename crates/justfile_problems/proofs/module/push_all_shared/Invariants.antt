use Rattle.std.proofs.Common.{◌≡◌, ◌++◌, take}
use Rattle.std.specs.List.{flat_map}
use Rattle.justfile_problems.specs.Problems.{shared_of}
use Rattle.justfile_problems.proofs.module.push_all_shared.Given as goal

abbrev pub invariant-loop-definition : goal.invariant-loop-definition
invariant-loop-definition l = l.found.items ≡ l.fn.found.items ++ flat_map shared_of (take l.definition-index l.all)
