use Rattle.std.proofs.Common.{◌≡◌, map}
use Rattle.justfile_parse_attribute.specs.AttributeTable.{attribute_lines, attribute_lines_from}
use Rattle.justfile_parse_attribute.specs.Attributes.{entry_of_pair}
use Rattle.justfile_parse_attribute.specs.DerivedAttributeFields.{HaveDerivedPairFields}
use Rattle.justfile_parse_expression.specs.View.{tokens_left, state_of}
use Rattle.justfile_parse_attribute.proofs.attributes.parse_attributes.Given as goal

abbrev pub invariant-lines : goal.invariant-lines
invariant-lines g l = record {
  value : attribute_lines_from (map entry_of_pair l.attributes.pairs.items, state_of g.X.Expander.answer l.parser) ≡ attribute_lines (state_of g.X.Expander.answer l.fn.parser);
  fields : HaveDerivedPairFields l.attributes.pairs.items;
}

abbrev pub decreases-lines : goal.decreases-lines
decreases-lines g l = tokens_left l.parser
