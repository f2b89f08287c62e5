use Rattle.std.proofs.Common.{◌≡◌, ◌++◌, map, take}
use Rattle.std.specs.List.{flat_map}
use Rattle.justfile_facts.specs.Submodules.{item_submodules, shown_submodule}
use Rattle.justfile_facts.proofs.submodules.push_submodules.Given as goal

abbrev pub invariant-loop-item : goal.invariant-loop-item
invariant-loop-item l = map shown_submodule l.found.items ≡ map shown_submodule l.fn.found.items ++ flat_map item_submodules (take l.item-index l.items)
