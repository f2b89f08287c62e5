use Rattle.std.proofs.Common.{take}
use Rattle.std.specs.List.{flat_map}
use Rattle.justfile_inner_expressions.specs.Pushed.{ArePushed}
use Rattle.justfile_inner_expressions.proofs.has_expressions.push_each.Given as goal

abbrev pub invariant-loop-value : goal.invariant-loop-value
invariant-loop-value g l = ArePushed l.found l.initial.found (flat_map g.T.HasExpressions.expressions (take l.value-index l.values))
