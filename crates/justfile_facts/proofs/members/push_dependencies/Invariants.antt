use Rattle.std.proofs.Common.{◌≡◌, ◌++◌, take}
use Rattle.std.specs.List.{flat_map}
use Rattle.justfile_facts.specs.Members.{dependency_members}
use Rattle.justfile_facts.proofs.members.push_dependencies.Given as goal

abbrev pub invariant-loop-dependency : goal.invariant-loop-dependency
invariant-loop-dependency l = l.found.items ≡ l.fn.found.items ++ flat_map (dependency_members l.item) (take l.dependency-index l.dependencies)
