use Rattle.std.proofs.Common.{◌∙◌, map}
use Rattle.std.proofs.lemmas.Result.{err_from_is_err_and}
use Rattle.justfile_model.specs.Readers.ReaderState as reading
use Rattle.justfile_parse_attribute.specs.Attributes.{entry_of_pair}
use Rattle.justfile_parse_expression.specs.View.{state_of}
use Rattle.justfile_parse_base.specs.Counting.{counters_of, identifiers_left}
use Rattle.justfile_parse_item.proofs.ItemErrors.{function_attributes_fail, function_errs, function_read}
use Rattle.justfile_parse_item.proofs.CounterSteps.{function_moved}
use Rattle.std.proofs.Common.{refl}
use Rattle.justfile_parse_item.specs.ItemTable as reader
use Rattle.justfile_parse_item.proofs.Pushes.{appends, reads}
use Rattle.justfile_parse_expression.specs.TableReader.{leaves}
use Rattle.justfile_parse_item.proofs.function.parse_function.Goals as goal

pub returns-in_err-attributes-clause-reads : goal.returns-in_err-attributes-clause-reads
returns-in_err-attributes-clause-reads g c =
    let A = g.X.Expander.answer in
    let named = state_of A c.expect.new.self in
    let p = err_from_is_err_and c.from_residual-in_err-attributes.result c.from_residual-in_err-attributes.ensures.1 in
    rw (p.1, p.2)
    (function_attributes_fail (map entry_of_pair c.args.attributes.items) (counters_of c.args.numerator.now) (state_of A c.args.parser.now) c.in_ok-name.name.now named c.in_ok-name.ensures.reads
    c.in_err-attributes.field-0.0 named _ (c.in_err-attributes.ensures.reads named))

pub returns-in_err-parameters-clause-reads : goal.returns-in_err-parameters-clause-reads
returns-in_err-parameters-clause-reads g c =
    let A = g.X.Expander.answer in
    let named = state_of A c.expect.new.self in
    let p = err_from_is_err_and c.from_residual-in_err-parameters.result c.from_residual-in_err-parameters.ensures.1 in
    rw (p.1, p.2)
    (function_errs (map entry_of_pair c.args.attributes.items) (counters_of c.args.numerator.now) (state_of A c.args.parser.now) c.in_ok-name.name.now named c.in_ok-name.ensures.reads
    c.in_ok-expect.field-0.now (state_of A c.expect-2.new.self) (c.in_ok-attributes.ensures.reads named) c.in_ok-expect.ensures.reads
    c.in_err-parameters.field-0.0 (state_of A c.parse_parameter_names.new.parser) (reading.NoNumber (counters_of c.parse_parameter_names.new.numerator)) c.in_err-parameters.ensures.reads)

pub returns-in_err-parameters-clause-moved : goal.returns-in_err-parameters-clause-moved
returns-in_err-parameters-clause-moved g c =
    let A = g.X.Expander.answer in
    let opened = state_of A c.expect-2.new.self in
    function_moved c.args.numerator.now c.parse_parameter_names.new.numerator (state_of A c.args.parser.now) (state_of A c.expect.new.self) opened c.in_ok-name.name.now c.in_ok-expect.field-0.now
    0 c.in_ok-name.ensures.reads c.in_ok-expect.ensures.reads c.in_err-parameters.ensures.numbers

pub returns-in_err-expect-2-clause-moved : goal.returns-in_err-expect-2-clause-moved
returns-in_err-expect-2-clause-moved g c =
    let A = g.X.Expander.answer in
    let opened = state_of A c.expect-2.new.self in
    function_moved c.args.numerator.now c.parse_parameter_names.new.numerator (state_of A c.args.parser.now) (state_of A c.expect.new.self) opened c.in_ok-name.name.now c.in_ok-expect.field-0.now
    (identifiers_left (state_of A c.parse_parameter_names.new.parser)) c.in_ok-name.ensures.reads c.in_ok-expect.ensures.reads c.in_ok-parameters.ensures.numbers

pub returns-in_err-body-clause-moved : goal.returns-in_err-body-clause-moved
returns-in_err-body-clause-moved g c =
    let A = g.X.Expander.answer in
    let opened = state_of A c.expect-2.new.self in
    function_moved c.args.numerator.now c.parse_parameter_names.new.numerator (state_of A c.args.parser.now) (state_of A c.expect.new.self) opened c.in_ok-name.name.now c.in_ok-expect.field-0.now
    (identifiers_left (state_of A c.parse_parameter_names.new.parser)) c.in_ok-name.ensures.reads c.in_ok-expect.ensures.reads c.in_ok-parameters.ensures.numbers

pub returns-clause-moved : goal.returns-clause-moved
returns-clause-moved g c =
    let A = g.X.Expander.answer in
    let opened = state_of A c.expect-2.new.self in
    function_moved c.args.numerator.now c.parse_parameter_names.new.numerator (state_of A c.args.parser.now) (state_of A c.expect.new.self) opened c.in_ok-name.name.now c.in_ok-expect.field-0.now
    (identifiers_left (state_of A c.parse_parameter_names.new.parser)) c.in_ok-name.ensures.reads c.in_ok-expect.ensures.reads c.in_ok-parameters.ensures.numbers

pub returns-clause-reads : goal.returns-clause-reads
unfolding leaves
returns-clause-reads g c =
    let A = g.X.Expander.answer in
    let ws = map entry_of_pair c.args.attributes.items in
    let n = counters_of c.args.numerator.now in
    let here = state_of A c.args.parser.now in
    let named = state_of A c.expect.new.self in
    let last = state_of A c.parse_expression.new.parser in
    reads _ c.args.items.now.items c.push_parsed_item.new.items.items c.push_parsed_item.result c.parse_parameter_names.new.numerator last
    (reader.function ws n here) c.push_parsed_item.ensures
    (function_read ws n here c.in_ok-name.name.now named c.in_ok-name.ensures.reads c.in_ok-expect.field-0.now (state_of A c.expect-2.new.self) (c.in_ok-attributes.ensures.reads named)
    c.in_ok-expect.ensures.reads _ (state_of A c.parse_parameter_names.new.parser) c.in_ok-parameters.ensures.reads _ _ c.in_ok-expect-2.ensures.reads _ last c.in_ok-body.ensures.reads
    ∙ rw (c.in_ok-attributes.ensures.set.entries, c.from_identifier.ensures, c.into_inner.ensures) refl)

pub returns-clause-appended : goal.returns-clause-appended
returns-clause-appended g c =
    appends _ c.args.items.now.items c.push_parsed_item.new.items.items c.push_parsed_item.result c.push_parsed_item.ensures (c.in_ok-attributes.ensures.set.fields)
