use Rattle.std.proofs.Common.{◌∙◌, ap, map, sym}
use Rattle.std.proofs.lemmas.Result.{err_from_is_err_and}
use Rattle.justfile_parse_attribute.specs.Attributes.{entry_of_pair}
use Rattle.justfile_parse_expression.specs.View.{state_of}
use Rattle.justfile_parse_base.specs.Counting.{counters_of}
use Rattle.justfile_parse_item.proofs.ItemErrors.{assignment_errs, assignment_read}
use Rattle.justfile_parse_item.proofs.CounterSteps.{binding_moved}
use Rattle.std.proofs.Common.{refl}
use Rattle.justfile_token.specs.declared.token.Token.{Token}
use Rattle.justfile_parse_item.specs.DerivedFields.{is_private_item}
use Rattle.justfile_parse_expression.proofs.Rest.{file_depth_is}
use Rattle.justfile_parse_item.specs.ItemTable as reader
use Rattle.justfile_parse_item.proofs.Pushes.{appends, reads}
use Rattle.justfile_parse_expression.specs.TableReader.{leaves}
use Rattle.justfile_parse_item.proofs.assignment.parse_assignment.Goals as goal

pub returns-clause-moved : goal.returns-clause-moved
returns-clause-moved g c =
    let A = g.X.Expander.answer in
    let there = state_of A c.parse_expression.new.parser in
    binding_moved c.args.numerator.now c.next_binding_number.new.numerator c.in_ok-number.number.0 (state_of A c.args.parser.now) (state_of A c.expect.new.self) there c.in_ok-name.name.now c.in_ok-name.ensures.reads
    (c.in_ok-number.ensures.reads there)

pub returns-in_err-attributes-clause-reads : goal.returns-in_err-attributes-clause-reads
returns-in_err-attributes-clause-reads g c =
    let A = g.X.Expander.answer in
    let there = state_of A c.parse_expression.new.parser in
    let p = err_from_is_err_and c.from_residual-in_err-attributes.result c.from_residual-in_err-attributes.ensures.1 in
    rw (p.1, p.2)
    (assignment_errs (map entry_of_pair c.args.attributes.items) (counters_of c.args.numerator.now) (state_of A c.args.parser.now) c.in_ok-name.name.now (state_of A c.expect.new.self) c.in_ok-name.ensures.reads
    c.args.eager c.args.export c.in_ok-expect.field-0.now (state_of A c.expect-2.new.self) _ there c.in_ok-expect.ensures.reads c.in_ok-value.ensures.reads
    c.in_err-attributes.field-0.0 there _ (c.in_err-attributes.ensures.reads there))

pub returns-clause-reads : goal.returns-clause-reads
unfolding leaves
returns-clause-reads g c =
    let A = g.X.Expander.answer in
    let ws = map entry_of_pair c.args.attributes.items in
    let n = counters_of c.args.numerator.now in
    let m = counters_of c.next_binding_number.new.numerator in
    let here = state_of A c.args.parser.now in
    let last = c.parse_expression.new.parser in
    let there = state_of A last in
    reads _ c.args.items.now.items c.push_parsed_item.new.items.items c.push_parsed_item.result c.next_binding_number.new.numerator there
    (reader.assignment c.args.eager c.args.export ws n here) c.push_parsed_item.ensures
    (assignment_read ws n here c.in_ok-name.name.now (state_of A c.expect.new.self) c.in_ok-name.ensures.reads c.args.eager c.args.export c.in_ok-expect.field-0.now
    (state_of A c.expect-2.new.self) _ there c.in_ok-expect.ensures.reads c.in_ok-value.ensures.reads (c.in_ok-attributes.ensures.reads there) c.in_ok-number.number.0 m
    (c.in_ok-number.ensures.reads there)
    ∙ rw (c.in_ok-attributes.ensures.set.entries, c.from_identifier.ensures, c.into_inner.ensures, file_depth_is A last) refl)

pub returns-clause-appended : goal.returns-clause-appended
returns-clause-appended g c =
    appends _ c.args.items.now.items c.push_parsed_item.new.items.items c.push_parsed_item.result c.push_parsed_item.ensures (record { attributes = c.in_ok-attributes.ensures.set.fields; private = c.is_private_item-private.ensures ∙ ap (λ (name : Token). is_private_item name c.in_ok-attributes.attributes) (sym c.from_identifier.ensures) })
