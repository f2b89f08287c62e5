use Rattle.std.proofs.Common.{take}
use Rattle.std.specs.List.{flat_map}
use Rattle.justfile_attribute.specs.Expressions.{attribute_expressions}
use Rattle.justfile_attribute_set.specs.Keys.{firsts}
use Rattle.justfile_inner_expressions.specs.Pushed.{ArePushed}
use Rattle.justfile_attribute_set.proofs.expressions.push_pairs.Given as goal

abbrev pub invariant-loop-pair : goal.invariant-loop-pair
invariant-loop-pair l = ArePushed l.found l.initial.found (flat_map attribute_expressions (firsts (take l.pair-index l.pairs)))
