use Rattle.std.proofs.Common.{map}
use Rattle.std.proofs.lemmas.Result.{err_from_is_err_and}
use Rattle.justfile_parse_item.specs.MethodResults.{ParsesUncounted}
use Rattle.justfile_parse_attribute.specs.Attributes.{entry_of_pair}
use Rattle.justfile_parse_expression.specs.View.{state_of}
use Rattle.justfile_parse_item.proofs.ItemErrors.{alias_errs}
use Rattle.std.proofs.Common.{refl}
use Rattle.justfile_model.specs.Readers.Reader as files
use Rattle.justfile_parse_item.specs.ItemTable as reader
use Rattle.justfile_parse_item.proofs.Pushes.{appends, reads_uncounted}
use Rattle.justfile_parse_expression.specs.TableReader.{leaves}
use Rattle.justfile_parse_item.proofs.short_item.parse_alias.Goals as goal

pub returns-in_err-attributes-clause-reads : goal.returns-in_err-attributes-clause-reads
unfolding ParsesUncounted
returns-in_err-attributes-clause-reads g c =
    let A = g.X.Expander.answer in
    let p = err_from_is_err_and c.from_residual-in_err-attributes.result c.from_residual-in_err-attributes.ensures.1 in
    let there = state_of A c.parse_namepath.new.parser in
    rw (p.1, p.2)
    (λ n. alias_errs (map entry_of_pair c.args.attributes.items) n (state_of A c.args.parser.now) c.in_ok-name.name.now (state_of A c.expect.new.self) c.in_ok-name.ensures.reads
    c.in_ok-expect.field-0.now (state_of A c.expect-2.new.self) _ there c.in_ok-expect.ensures.reads c.in_ok-target.ensures
    c.in_err-attributes.field-0.0 there (c.in_err-attributes.ensures.reads there))

pub returns-clause-reads : goal.returns-clause-reads
unfolding files.alias leaves
returns-clause-reads g c =
    let A = g.X.Expander.answer in
    let there = state_of A c.parse_namepath.new.parser in
    reads_uncounted A _ c.args.items.now.items c.push_parsed_item.new.items.items c.push_parsed_item.result c.args.parser.now c.parse_namepath.new.parser
    (reader.alias (map entry_of_pair c.args.attributes.items)) c.push_parsed_item.ensures
    (λ n. rw (c.in_ok-name.ensures.reads, c.in_ok-expect.ensures.reads, c.in_ok-target.ensures, c.in_ok-attributes.ensures.reads there, c.in_ok-attributes.ensures.set.entries, c.from_identifier.ensures) refl)

pub returns-clause-appended : goal.returns-clause-appended
returns-clause-appended g c =
    appends _ c.args.items.now.items c.push_parsed_item.new.items.items c.push_parsed_item.result c.push_parsed_item.ensures (c.in_ok-attributes.ensures.set.fields)
