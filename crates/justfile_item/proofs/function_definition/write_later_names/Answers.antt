use Rattle.std.proofs.Common.{◌++◌, codes, refl, arith}
use Rattle.justfile_token.specs.Token.{lexeme_of}
use Rattle.justfile_token.specs.declared.name.Name.{Name}
use Rattle.justfile_numbers.specs.declared.number.Number.{Number}
use Rattle.justfile_model.specs.Printed.Printing.{fixed_text}
use Rattle.justfile_token.proofs.PutLemmas.{failed_at}
use Rattle.justfile_expression.proofs.ListLoops.{took_next, failed_next}
use Rattle.justfile_item.specs.ItemText.{later_names_text}
use Rattle.justfile_item.proofs.function_definition.write_later_names.Goals as goal

pub loop-parameter-preserved : goal.loop-parameter-preserved
loop-parameter-preserved g c =
    let s = g.met.S.Sink in
    took_next g.S.Sink.took g.S.Sink.failed s.took_more s.failed_later s.failed_before later_names_text (λ (p : Name × Number). fixed_text (codes ", ") ++ lexeme_of p.0.token) (λ xs. refl)
    c.args.parameters.now c.loop-parameter.parameter-index c.parameter-item.result (omega arith) c.parameter-item.is _ _ _ c.loop-parameter.invariant c.in_ok-write_later_name.ensures

pub returns-in_err-write_later_name : goal.returns-in_err-write_later_name
returns-in_err-write_later_name g c =
    let s = g.met.S.Sink in
    failed_at g.S.Sink.took g.S.Sink.failed _ c.from_residual.ensures.0 (failed_next g.S.Sink.took g.S.Sink.failed s.took_more s.failed_later s.failed_before later_names_text (λ (p : Name × Number). fixed_text (codes ", ") ++ lexeme_of p.0.token) (λ xs. refl)
    c.args.parameters.now c.loop-parameter.parameter-index c.parameter-item.result (omega arith) c.parameter-item.is _ _ _ c.loop-parameter.invariant c.in_err-write_later_name.ensures)
