use Rattle.std.proofs.Common.{arith}
use Rattle.justfile_token.proofs.PutLemmas.{failed_at}
use Rattle.justfile_expression.proofs.ListLoops.{took_next, failed_next}
use Rattle.justfile_item.specs.Attributes.{attribute_line, lines_text}
use Rattle.justfile_item.proofs.AttributeLines.{lines_parts}
use Rattle.justfile_item.proofs.attributes.write_lines.Goals as goal

pub loop-pair-preserved : goal.loop-pair-preserved
loop-pair-preserved g c =
    let s = g.met.S.Sink in
    took_next g.S.Sink.took g.S.Sink.failed s.took_more s.failed_later s.failed_before lines_text attribute_line lines_parts
    c.args.pairs.now c.loop-pair.pair-index c.pair-item.result (omega arith) c.pair-item.is _ _ _ c.loop-pair.invariant c.in_ok-write_attribute_line.ensures

pub returns-in_err-write_attribute_line : goal.returns-in_err-write_attribute_line
returns-in_err-write_attribute_line g c =
    let s = g.met.S.Sink in
    failed_at g.S.Sink.took g.S.Sink.failed _ c.from_residual.ensures.0 (failed_next g.S.Sink.took g.S.Sink.failed s.took_more s.failed_later s.failed_before lines_text attribute_line lines_parts
    c.args.pairs.now c.loop-pair.pair-index c.pair-item.result (omega arith) c.pair-item.is _ _ _ c.loop-pair.invariant c.in_err-write_attribute_line.ensures)
