use Rattle.justfile_parse_expression.specs.View.{tokens_left, state_of}
use Rattle.justfile_parse_item_parts.proofs.NumberedNames.{IsReadTo}
use Rattle.justfile_parse_item_parts.proofs.parameter_names.parse_parameter_names.Given as goal

abbrev pub invariant-names : goal.invariant-names
invariant-names g l =
    let A = g.X.Expander.answer in
    IsReadTo (state_of A l.fn.parser) (state_of A l.parser) l.fn.numerator l.numerator l.parameters.items

abbrev pub decreases-names : goal.decreases-names
decreases-names g l = tokens_left l.parser
