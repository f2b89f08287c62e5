use Rattle.std.proofs.Common.{arith, ◌++◌, codes}
use Rattle.justfile_vocabulary.specs.Indentation.{indentation_text}
use Rattle.justfile_model.specs.Printed.Printing.{fixed_text, body_line_text, body_text}
use Rattle.justfile_line.specs.Body.{line_shape, line_shapes}
use Rattle.justfile_line.proofs.Bodies.{body_parts}
use Rattle.justfile_token.proofs.PutLemmas.{failed_at}
use Rattle.justfile_expression.proofs.ListLoops.{took_next, failed_next}
use Rattle.justfile_item.proofs.recipe.write_body.Goals as goal

pub loop-line-preserved : goal.loop-line-preserved
loop-line-preserved g c =
    let s = g.met.S.Sink in
    let indentation = indentation_text c.args.indentation in
    took_next g.S.Sink.took g.S.Sink.failed s.took_more s.failed_later s.failed_before (λ l. body_text indentation (line_shapes l)) (λ l. fixed_text (codes "\n") ++ body_line_text indentation (line_shape l)) (body_parts indentation)
    c.args.lines.now c.loop-line.line-index c.line-item.result (omega arith) c.line-item.is _ _ _ c.loop-line.invariant c.in_ok-write_next_line.ensures

pub returns-in_err-write_next_line : goal.returns-in_err-write_next_line
returns-in_err-write_next_line g c =
    let s = g.met.S.Sink in
    let indentation = indentation_text c.args.indentation in
    failed_at g.S.Sink.took g.S.Sink.failed _ c.from_residual.ensures.0 (failed_next g.S.Sink.took g.S.Sink.failed s.took_more s.failed_later s.failed_before (λ l. body_text indentation (line_shapes l)) (λ l. fixed_text (codes "\n") ++ body_line_text indentation (line_shape l)) (body_parts indentation)
    c.args.lines.now c.loop-line.line-index c.line-item.result (omega arith) c.line-item.is _ _ _ c.loop-line.invariant c.in_err-write_next_line.ensures)
