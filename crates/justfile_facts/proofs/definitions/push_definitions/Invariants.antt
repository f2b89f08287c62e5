use Rattle.std.proofs.Common.{◌≡◌, ◌++◌, take}
use Rattle.std.specs.List.{flat_map}
use Rattle.justfile_facts.specs.Definitions.{item_definitions}
use Rattle.justfile_facts.proofs.definitions.push_definitions.Given as goal

abbrev pub invariant-loop-item : goal.invariant-loop-item
invariant-loop-item l = l.found.items ≡ l.fn.found.items ++ flat_map item_definitions (take l.item-index l.items)
