use Rattle.std.proofs.Common.{◌≡◌, ◌++◌, take}
use Rattle.std.specs.List.{flat_map}
use Rattle.justfile_facts.specs.Definitions.{parameter_definitions}
use Rattle.justfile_facts.proofs.definitions.push_parameters.Given as goal

abbrev pub invariant-loop-parameter : goal.invariant-loop-parameter
invariant-loop-parameter l = l.found.items ≡ l.fn.found.items ++ flat_map (parameter_definitions l.item) (take l.parameter-index l.parameters)
