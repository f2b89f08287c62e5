use Rattle.std.proofs.Common.{◌≡◌, ◌++◌, take}
use Rattle.std.specs.List.{flat_map}
use Rattle.justfile_facts.specs.Uses.{parameter_uses}
use Rattle.justfile_facts.proofs.uses.push_parameters.Given as goal

abbrev pub invariant-loop-parameter : goal.invariant-loop-parameter
invariant-loop-parameter l = l.found.items ≡ l.fn.found.items ++ flat_map (parameter_uses l.item) (take l.parameter-index l.parameters)
