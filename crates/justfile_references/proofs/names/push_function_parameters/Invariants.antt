use Rattle.std.proofs.Common.{◌≡◌, ◌++◌, map, take}
use Rattle.justfile_references.specs.References.{function_parameter}
use Rattle.justfile_references.proofs.names.push_function_parameters.Given as goal

abbrev pub invariant-loop-parameter : goal.invariant-loop-parameter
invariant-loop-parameter l = l.found.items ≡ l.fn.found.items ++ map function_parameter (take l.parameter-index l.parameters)
