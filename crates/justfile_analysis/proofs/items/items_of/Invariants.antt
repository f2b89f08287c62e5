use Rattle.std.proofs.Common.{◌≡◌, map, take}
use Rattle.justfile_analysis.specs.Shown.{shown, surveyed}
use Rattle.justfile_analysis.proofs.items.items_of.Given as goal

abbrev pub invariant-loop-item : goal.invariant-loop-item
invariant-loop-item l = map shown l.items.items ≡ map surveyed (take l.item-index l.found)
