use Rattle.std.proofs.Common.{◌≡◌, take}
use Rattle.std.specs.List.{flat_map}
use Rattle.justfile_inner_expressions.specs.Pushed.{referents}
use Rattle.justfile_item.specs.AllExpressions.{with_inner}
use Rattle.justfile_item.proofs.item.Item.all_expressions.Given as goal

abbrev pub invariant-loop-index : goal.invariant-loop-index
invariant-loop-index l = referents l.found.items ≡ flat_map with_inner (referents (take l.index l.direct.items))
