use Rattle.std.proofs.Common.{◌++◌, codes, refl, arith}
use Rattle.std.specs.List.{flat_map}
use Rattle.justfile_model.specs.Printed.Printing.{fixed_text}
use Rattle.justfile_expression.specs.Text.{text_of}
use Rattle.justfile_token.proofs.PutLemmas.{failed_at}
use Rattle.justfile_expression.proofs.ListLoops.{took_next, failed_next}
use Rattle.justfile_setting.proofs.print.write_arguments.Goals as goal

pub loop-argument-preserved : goal.loop-argument-preserved
loop-argument-preserved g c =
    let s = g.met.S.Sink in
    took_next g.S.Sink.took g.S.Sink.failed s.took_more s.failed_later s.failed_before (flat_map (λ e. fixed_text (codes ", ") ++ text_of e)) _ (λ es. refl)
    c.args.arguments.now c.loop-argument.argument-index c.argument-item.result (omega arith) c.argument-item.is _ _ _ c.loop-argument.invariant c.in_ok-write_later.ensures

pub returns-in_err-write_later : goal.returns-in_err-write_later
returns-in_err-write_later g c =
    let s = g.met.S.Sink in
    failed_at g.S.Sink.took g.S.Sink.failed _ c.from_residual.ensures.0 (failed_next g.S.Sink.took g.S.Sink.failed s.took_more s.failed_later s.failed_before (flat_map (λ e. fixed_text (codes ", ") ++ text_of e)) _ (λ es. refl)
    c.args.arguments.now c.loop-argument.argument-index c.argument-item.result (omega arith) c.argument-item.is _ _ _ c.loop-argument.invariant c.in_err-write_later.ensures)
