use Rattle.std.proofs.Common.{◌++◌, refl, arith}
use Rattle.std.specs.List.{flat_map}
use Rattle.justfile_model.specs.Printed.Printing.{fixed_text}
use Rattle.justfile_token.proofs.PutLemmas.{failed_at}
use Rattle.justfile_expression.proofs.ListLoops.{took_next, failed_next}
use Rattle.justfile_recipe_header.proofs.write_to.write_each.Goals as goal

pub loop-piece-preserved : goal.loop-piece-preserved
loop-piece-preserved g c =
    let s = g.met.S.Sink in
    took_next g.S.Sink.took g.S.Sink.failed s.took_more s.failed_later s.failed_before (flat_map (λ p. fixed_text c.args.before.now ++ g.P.WriteTo.piece_text p)) _ (λ ps. refl)
    c.args.pieces.now c.loop-piece.piece-index c.piece-item.result (omega arith) c.piece-item.is _ _ _ c.loop-piece.invariant c.in_ok-write_one.ensures

pub returns-in_err-write_one : goal.returns-in_err-write_one
returns-in_err-write_one g c =
    let s = g.met.S.Sink in
    failed_at g.S.Sink.took g.S.Sink.failed _ c.from_residual.ensures.0 (failed_next g.S.Sink.took g.S.Sink.failed s.took_more s.failed_later s.failed_before (flat_map (λ p. fixed_text c.args.before.now ++ g.P.WriteTo.piece_text p)) _ (λ ps. refl)
    c.args.pieces.now c.loop-piece.piece-index c.piece-item.result (omega arith) c.piece-item.is _ _ _ c.loop-piece.invariant c.in_err-write_one.ensures)
