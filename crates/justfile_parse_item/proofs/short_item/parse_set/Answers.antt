use Rattle.std.proofs.Common.{◌∙◌, map}
use Rattle.std.proofs.lemmas.Result.{err_from_is_err_and}
use Rattle.justfile_parse_item.specs.MethodResults.{ParsesUncounted}
use Rattle.justfile_parse_attribute.specs.Attributes.{entry_of_pair}
use Rattle.justfile_parse_expression.specs.View.{state_of}
use Rattle.justfile_parse_item.proofs.ItemErrors.{setting_attributes_fail, setting_read, setting_value_fails}
use Rattle.std.proofs.Common.{refl}
use Rattle.justfile_setting.specs.LeafSetting.{leaf_value_of}
use Rattle.justfile_parse_item.specs.ItemTable as reader
use Rattle.justfile_parse_item.proofs.Pushes.{appends, reads_uncounted}
use Rattle.justfile_parse_expression.specs.TableReader.{leaves}
use Rattle.justfile_parse_item.proofs.short_item.parse_set.Goals as goal

pub returns-in_err-attributes-clause-reads : goal.returns-in_err-attributes-clause-reads
unfolding ParsesUncounted
returns-in_err-attributes-clause-reads g c =
    let A = g.X.Expander.answer in
    let p = err_from_is_err_and c.from_residual-in_err-attributes.result c.from_residual-in_err-attributes.ensures.1 in
    let there = state_of A c.expect.new.self in
    rw (p.1, p.2)
    (λ n. setting_attributes_fail (map entry_of_pair c.args.attributes.items) n (state_of A c.args.parser.now) c.in_ok-name.name.now (state_of A c.expect.new.self) c.in_ok-name.ensures.reads
    c.in_ok-keyword.keyword (c.in_ok-keyword.ensures there) c.in_err-attributes.field-0.0 there (c.in_err-attributes.ensures.reads there))

pub returns-in_err-value-clause-reads : goal.returns-in_err-value-clause-reads
unfolding ParsesUncounted
returns-in_err-value-clause-reads g c =
    let A = g.X.Expander.answer in
    let p = err_from_is_err_and c.from_residual-in_err-value.result c.from_residual-in_err-value.ensures.1 in
    let there = state_of A c.expect.new.self in
    rw (p.1, p.2)
    (λ n. setting_value_fails (map entry_of_pair c.args.attributes.items) n (state_of A c.args.parser.now) c.in_ok-name.name.now (state_of A c.expect.new.self) c.in_ok-name.ensures.reads
    c.in_ok-keyword.keyword (c.in_ok-keyword.ensures there) (c.in_ok-attributes.ensures.reads there)
    c.in_err-value.field-0.0 (state_of A c.parse_setting_value.new.parser) c.in_err-value.ensures.reads)

pub returns-clause-reads : goal.returns-clause-reads
unfolding leaves
returns-clause-reads g c =
    let A = g.X.Expander.answer in
    let ws = map entry_of_pair c.args.attributes.items in
    let named = state_of A c.expect.new.self in
    let last = state_of A c.parse_setting_value.new.parser in
    reads_uncounted A _ c.args.items.now.items c.push_parsed_item.new.items.items c.push_parsed_item.result c.args.parser.now c.parse_setting_value.new.parser
    (reader.setting ws) c.push_parsed_item.ensures
    (λ n. setting_read ws n (state_of A c.args.parser.now) c.in_ok-name.name.now named c.in_ok-name.ensures.reads c.in_ok-keyword.keyword (c.in_ok-keyword.ensures named)
    (c.in_ok-attributes.ensures.reads named) (leaf_value_of c.in_ok-value.value) last c.in_ok-value.ensures.reads
    ∙ rw (c.in_ok-attributes.ensures.set.entries, c.from_identifier.ensures, c.in_ok-value.ensures.keyword) refl)

pub returns-clause-appended : goal.returns-clause-appended
returns-clause-appended g c =
    appends _ c.args.items.now.items c.push_parsed_item.new.items.items c.push_parsed_item.result c.push_parsed_item.ensures (record { attributes = c.in_ok-attributes.ensures.set.fields; value = c.in_ok-value.ensures.fields })
