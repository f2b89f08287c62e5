use Rattle.std.proofs.Common.{◌≡◌, ◌++◌, take}
use Rattle.justfile_problems.specs.Names.{known}
use Rattle.justfile_problems.specs.Problems.{definition_problems}
use Rattle.justfile_problems.proofs.listing.push_of_definitions.Given as goal

abbrev pub invariant-loop-definition : goal.invariant-loop-definition
invariant-loop-definition l = l.found.items ≡ l.fn.found.items ++ definition_problems l.rules (known l.names) (take l.definition-index l.definitions)
