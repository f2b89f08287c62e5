use Rattle.std.proofs.Common.{take}
use Rattle.std.specs.List.{AllZip}
use Rattle.justfile_expression.specs.Resolved.{number_of}
use Rattle.justfile_expression.proofs.Resolved.{IsKeptFrom}
use Rattle.justfile_attribute_set.specs.Resolved.{IsResolvedPair}
use Rattle.justfile_attribute_set.proofs.resolve.resolve_pairs.Given as goal

abbrev pub invariant-loop-pair : goal.invariant-loop-pair
invariant-loop-pair l =
    IsKeptFrom l.pair-index l.pair-items l.initial.pair-items
    × AllZip (IsResolvedPair (number_of l.context l.bindings)) (take l.pair-index l.pair-items) (take l.pair-index l.initial.pair-items)
