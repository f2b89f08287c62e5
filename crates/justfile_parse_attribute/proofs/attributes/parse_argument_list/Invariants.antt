use Rattle.std.proofs.Common.{◌≡◌, ◌≤◌, []}
use Rattle.justfile_parse_attribute.specs.AttributeTable.{arguments_from}
use Rattle.justfile_parse_attribute.specs.Attributes.{arguments_of}
use Rattle.justfile_parse_expression.specs.View.{tokens_left, state_of}
use Rattle.justfile_parse_attribute.proofs.attributes.parse_argument_list.Given as goal

abbrev pub invariant-list : goal.invariant-list
invariant-list g l = record {
  ahead : tokens_left l.parser ≤ tokens_left l.fn.parser;
  value : arguments_from l.name l.keys (arguments_of l.arguments, state_of g.X.Expander.answer l.parser) ≡ arguments_from l.name l.keys ([], state_of g.X.Expander.answer l.fn.parser);
}

abbrev pub decreases-list : goal.decreases-list
decreases-list g l = tokens_left l.parser
