use Rattle.std.proofs.Common.{◌++◌, take}
use Rattle.std.specs.List.{flat_map}
use Rattle.justfile_model.specs.Printed.Printing.{fixed_text}
use Rattle.justfile_recipe_header.proofs.write_to.write_each.Given as goal

abbrev pub invariant-loop-piece : goal.invariant-loop-piece
invariant-loop-piece g l = g.S.Sink.took l.initial.sink (flat_map (λ p. fixed_text l.before ++ g.P.WriteTo.piece_text p) (take l.piece-index l.pieces)) l.sink
