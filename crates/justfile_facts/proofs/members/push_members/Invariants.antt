use Rattle.std.proofs.Common.{◌≡◌, ◌++◌, take}
use Rattle.std.specs.List.{flat_map}
use Rattle.justfile_facts.specs.Members.{item_members}
use Rattle.justfile_facts.proofs.members.push_members.Given as goal

abbrev pub invariant-loop-item : goal.invariant-loop-item
invariant-loop-item l = l.found.items ≡ l.fn.found.items ++ flat_map item_members (take l.item-index l.items)
