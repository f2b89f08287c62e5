use Rattle.std.proofs.Common.{◌≡◌, ◌++◌, take}
use Rattle.std.specs.List.{flat_map}
use Rattle.justfile_facts.specs.Definitions.{function_parameter}
use Rattle.justfile_facts.proofs.definitions.push_function_parameters.Given as goal

abbrev pub invariant-loop-parameter : goal.invariant-loop-parameter
invariant-loop-parameter l = l.found.items ≡ l.fn.found.items ++ flat_map (function_parameter l.item) (take l.parameter-index l.parameters)
