use Rattle.justfile_parse_expression.specs.View.{state_of}
use Rattle.justfile_parse_base.specs.Counting.{identifiers_left}
use Rattle.justfile_parse_item.proofs.CounterSteps.{more_moved}
use Rattle.justfile_parse_item.proofs.ConstructKeywords.{keyword_fewer}
use Rattle.justfile_parse_item.proofs.construct.parse_content.Goals as goal

pub returns-in-Some-clause-moved : goal.returns-in-Some-clause-moved
returns-in-Some-clause-moved g c =
    let A = g.X.Expander.answer in
    let s = state_of A c.args.parser.now in
    let rest = state_of A c.accept_construct_keyword.new.parser in
    more_moved c.args.numerator.now c.parse_after_keyword.new.numerator (identifiers_left rest) (identifiers_left s) c.parse_after_keyword.ensures.moved (keyword_fewer s c.in-Some.keyword rest c.in-Some.ensures.takes)
