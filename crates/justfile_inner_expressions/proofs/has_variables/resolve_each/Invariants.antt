use Rattle.std.proofs.Common.{take}
use Rattle.std.specs.List.{AllZip}
use Rattle.justfile_expression.specs.Resolved.{number_of}
use Rattle.justfile_expression.proofs.Resolved.{IsKeptFrom}
use Rattle.justfile_inner_expressions.proofs.has_variables.resolve_each.Given as goal

abbrev pub invariant-loop-value : goal.invariant-loop-value
invariant-loop-value g l =
    IsKeptFrom l.value-index l.value-items l.initial.value-items
    × AllZip (g.T.HasVariables.is_resolved (number_of l.context l.bindings)) (take l.value-index l.value-items) (take l.value-index l.initial.value-items)
