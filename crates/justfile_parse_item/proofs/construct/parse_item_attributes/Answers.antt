use Rattle.std.proofs.Common.{◌+◌, ◌∙◌, map, refl, subst, sym}
use Rattle.justfile_parse_attribute.specs.Attributes.{entry_of_pair}
use Rattle.justfile_parse_attribute.specs.DerivedAttributeFields.{HaveDerivedPairFields}
use Rattle.justfile_parse_attribute.proofs.DerivedFieldsKept.{none_fields}
use Rattle.justfile_parse_expression.specs.View.{state_from, state_of}
use Rattle.justfile_parse_item.proofs.Constructs.{fails_alone}
use Rattle.justfile_parse_item.proofs.construct.parse_item_attributes.Goals as goal

pub returns-then-stands_alone-clause-reads : goal.returns-then-stands_alone-clause-reads
returns-then-stands_alone-clause-reads g c =
    let A = g.X.Expander.answer in
    fails_alone (state_of A c.args.parser.now) c.in-Some.field-0.now (state_from A c.args.parser.now (c.args.parser.now.next + 1)) c.in-Some.ensures.takes
    (map entry_of_pair c.in_ok-attributes.attributes.items) (state_of A c.parse_attributes.new.parser) c.in_ok-attributes.ensures.reads c.in_ok-attributes.attributes.items refl
    (sym c.stands_alone.ensures ∙ c.if-stands_alone.true) c.len.result (c.len.ensures ∙ c.in_ok-attributes.attributes.ok.0) c.extraneous_fault.result c.rule_error.result c.rule_error.ensures c.extraneous_fault.ensures

pub returns-in_default-clause-fields : goal.returns-in_default-clause-fields
returns-in_default-clause-fields g c = subst HaveDerivedPairFields (sym c.new.ensures.items) none_fields
