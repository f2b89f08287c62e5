use Rattle.std.proofs.Common.{◌≡◌, ◌≤◌, map}
use Rattle.justfile_parse_attribute.specs.AttributeTable.{bracketed}
use Rattle.justfile_parse_attribute.specs.Attributes.{entry_of_pair}
use Rattle.justfile_parse_attribute.specs.DerivedAttributeFields.{KeepsDerivedPairFields}
use Rattle.justfile_parse_expression.specs.View.{tokens_left, state_of}
use Rattle.justfile_parse_attribute.proofs.attributes.parse_bracketed.Given as goal

abbrev pub invariant-bracket : goal.invariant-bracket
invariant-bracket g l = record {
  ahead : tokens_left l.parser ≤ tokens_left l.fn.parser;
  value : bracketed (map entry_of_pair l.attributes.pairs.items, state_of g.X.Expander.answer l.parser) ≡ bracketed (map entry_of_pair l.fn.attributes.pairs.items, state_of g.X.Expander.answer l.fn.parser);
  fields : KeepsDerivedPairFields l.fn.attributes.pairs.items l.attributes.pairs.items;
}

abbrev pub decreases-bracket : goal.decreases-bracket
decreases-bracket g l = tokens_left l.parser
