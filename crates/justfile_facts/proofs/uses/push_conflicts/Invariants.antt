use Rattle.std.proofs.Common.{◌≡◌, ◌++◌, take}
use Rattle.std.specs.List.{flat_map}
use Rattle.justfile_facts.specs.Uses.{conflict_uses}
use Rattle.justfile_facts.proofs.uses.push_conflicts.Given as goal

abbrev pub invariant-loop-other : goal.invariant-loop-other
invariant-loop-other l = l.found.items ≡ l.fn.found.items ++ flat_map (conflict_uses l.set) (take l.other-index l.others)
