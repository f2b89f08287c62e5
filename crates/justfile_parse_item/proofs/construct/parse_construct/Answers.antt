use Rattle.std.proofs.Common.{map}
use Rattle.justfile_parse_attribute.specs.Attributes.{entry_of_pair}
use Rattle.justfile_parse_expression.specs.View.{state_of}
use Rattle.justfile_parse_item.proofs.CounterSteps.{more_moved}
use Rattle.justfile_parse_item.proofs.CounterBounds.{attributes_fewer}
use Rattle.justfile_parse_base.specs.Counting.{identifiers_left}
use Rattle.justfile_parse_item.proofs.construct.parse_construct.Goals as goal

pub returns-clause-moved : goal.returns-clause-moved
returns-clause-moved g c =
    let A = g.X.Expander.answer in
    let s = state_of A c.args.parser.now in
    let rest = state_of A c.parse_item_attributes.new.parser in
    more_moved c.args.numerator.now c.parse_content.new.numerator (identifiers_left rest) (identifiers_left s) c.parse_content.ensures.moved
    (attributes_fewer s (map entry_of_pair c.in_ok-attributes.attributes.items) rest c.requires c.in_ok-attributes.ensures.reads)
