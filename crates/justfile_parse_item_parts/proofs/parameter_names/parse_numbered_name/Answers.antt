use Rattle.std.proofs.Common.{arith}
use Rattle.std.proofs.lemmas.Result.{err_from_is_err_and}
use Rattle.justfile_parse_expression.specs.View.{state_of}
use Rattle.justfile_parse_base.proofs.BindingNumbers.{took_for_name}
use Rattle.justfile_parse_base.proofs.Fewer.{name_fewer}
use Rattle.justfile_parse_item_parts.proofs.NumberedNames.{name_read}
use Rattle.justfile_parse_item_parts.proofs.parameter_names.parse_numbered_name.Goals as goal

pub returns-in_err-push-clause-numbers : goal.returns-in_err-push-clause-numbers
returns-in_err-push-clause-numbers g c =
    let A = g.X.Expander.answer in
    let s = state_of A c.args.parser.now in
    let s1 = state_of A c.expect.new.self in
    let one = name_fewer s (c.in_ok-name.field-0.now, s1) c.in_ok-name.ensures.reads in
    let p = err_from_is_err_and c.from_residual-in_err-push.result c.from_residual-in_err-push.ensures.1 in
    rw p.1 (took_for_name c.args.numerator.now c.next_binding_number.new.numerator _ s s1 0 (c.in_ok-number.ensures.reads s1) one (omega arith))

pub returns-clause-reads : goal.returns-clause-reads
returns-clause-reads g c =
    let A = g.X.Expander.answer in
    let s1 = state_of A c.expect.new.self in
    name_read c.args.parameters.now.items c.args.numerator.now (state_of A c.args.parser.now) c.in_ok-name.field-0.now s1 c.from_identifier.result c.in_ok-number.number
    c.next_binding_number.new.numerator c.push.new.self.items c.in_ok-name.ensures.reads (c.in_ok-number.ensures.reads s1) c.from_identifier.ensures c.in_ok-push.ensures.items

pub returns-clause-numbers : goal.returns-clause-numbers
returns-clause-numbers g c =
    let A = g.X.Expander.answer in
    let s = state_of A c.args.parser.now in
    let s1 = state_of A c.expect.new.self in
    let one = name_fewer s (c.in_ok-name.field-0.now, s1) c.in_ok-name.ensures.reads in
    took_for_name c.args.numerator.now c.next_binding_number.new.numerator _ s s1 _ (c.in_ok-number.ensures.reads s1) one (omega arith)
