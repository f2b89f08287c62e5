use Rattle.std.proofs.Common.{◌≡◌, ◌++◌, take}
use Rattle.std.specs.List.{flat_map}
use Rattle.justfile_references.specs.References.{dependency_names}
use Rattle.justfile_references.proofs.names.push_dependencies.Given as goal

abbrev pub invariant-loop-dependency : goal.invariant-loop-dependency
invariant-loop-dependency l = l.found.items ≡ l.fn.found.items ++ flat_map dependency_names (take l.dependency-index l.dependencies)
