use Rattle.std.proofs.Common.{arith}
use Rattle.justfile_model.specs.Printed.Printing.{fragment_text}
use Rattle.justfile_line.specs.Body.{fragment_shape, fragments_text}
use Rattle.justfile_line.proofs.Bodies.{fragments_parts}
use Rattle.justfile_token.proofs.PutLemmas.{failed_at}
use Rattle.justfile_expression.proofs.ListLoops.{took_next, failed_next}
use Rattle.justfile_line.proofs.line.write_fragments.Goals as goal

pub loop-fragment-preserved : goal.loop-fragment-preserved
loop-fragment-preserved g c =
    let s = g.met.S.Sink in
    took_next g.S.Sink.took g.S.Sink.failed s.took_more s.failed_later s.failed_before fragments_text (λ f. fragment_text (fragment_shape f)) fragments_parts
    c.args.fragments.now c.loop-fragment.fragment-index c.fragment-item.result (omega arith) c.fragment-item.is _ _ _ c.loop-fragment.invariant c.in_ok-write_fragment.ensures

pub returns-in_err-write_fragment : goal.returns-in_err-write_fragment
returns-in_err-write_fragment g c =
    let s = g.met.S.Sink in
    failed_at g.S.Sink.took g.S.Sink.failed _ c.from_residual.ensures.0 (failed_next g.S.Sink.took g.S.Sink.failed s.took_more s.failed_later s.failed_before fragments_text (λ f. fragment_text (fragment_shape f)) fragments_parts
    c.args.fragments.now c.loop-fragment.fragment-index c.fragment-item.result (omega arith) c.fragment-item.is _ _ _ c.loop-fragment.invariant c.in_err-write_fragment.ensures)
