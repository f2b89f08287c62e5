use Rattle.justfile_parse_expression.specs.View.{tokens_left, state_of}
use Rattle.justfile_parse_header.specs.Tree.{rules_of}
use Rattle.justfile_parse_header.proofs.Parameters.{IsReadTo}
use Rattle.justfile_parse_header.proofs.parameter.parse_singulars.Given as goal

abbrev pub invariant-parameters : goal.invariant-parameters
invariant-parameters g l =
    let A = g.X.Expander.answer in
    IsReadTo (rules_of l.arg_attributes.attributes.now) (state_of A l.fn.parser) (state_of A l.parser) l.fn.numerator l.numerator l.fn.parameters.list.items l.parameters.list.items

abbrev pub decreases-parameters : goal.decreases-parameters
decreases-parameters g l = tokens_left l.parser
