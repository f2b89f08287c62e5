use Rattle.std.proofs.Common.{◌≡◌, ◌++◌, take}
use Rattle.std.specs.List.{flat_map}
use Rattle.justfile_inner_expressions.specs.Pushed.{referents}
use Rattle.justfile_references.specs.References.{expression_uses}
use Rattle.justfile_references.proofs.items.push_uses.Given as goal

abbrev pub invariant-loop-index : goal.invariant-loop-index
invariant-loop-index l = l.found.items ≡ l.fn.found.items ++ flat_map expression_uses (referents (take l.index l.expressions.items))
