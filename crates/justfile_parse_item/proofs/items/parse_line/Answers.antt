use Rattle.std.proofs.Common.{map, subst, sym}
use Rattle.justfile_model.specs.Readers.PartReader.{after_numbered}
use Rattle.justfile_parse_base.specs.Counting.{ParsesCounted, counters_of, identifiers_left}
use Rattle.justfile_parse_expression.specs.View.{state_of}
use Rattle.justfile_parse_expression.specs.declared.parser_state.ParserState.{ParserState}
use Rattle.justfile_parse_item.specs.ItemTable as reader
use Rattle.justfile_parse_item.specs.MethodResults.{CountersMoved, IsAtItem}
use Rattle.justfile_parse_item.specs.Tree.{item_tree}
use Rattle.justfile_parse_item.proofs.items.parse_line.Goals as goal

pub parse_item_line-requires : goal.parse_item_line-requires
parse_item_line-requires g c =
    let P : ParserState _ → Type 0 = λ p. IsAtItem (state_of g.X.Expander.answer p) in
    subst P (sym c.in_default.ensures.moves) (record { closed = c.requires; item = c.in_default.ensures.takes })

pub returns-clause-moved : goal.returns-clause-moved
returns-clause-moved g c =
    let A = g.X.Expander.answer in
    let P : ParserState _ → Type 0 = λ p. CountersMoved c.args.numerator.now c.parse_item_line.new.numerator (identifiers_left (state_of A p)) in
    subst P c.in_default.ensures.moves c.parse_item_line.ensures.moved

pub returns-clause-reads : goal.returns-clause-reads
returns-clause-reads g c =
    let A = g.X.Expander.answer in
    let P : ParserState _ → Type 0 = λ p. ParsesCounted A (λ _. map item_tree c.parse_item_line.new.items.items) c.parse_item_line.result c.parse_item_line.new.numerator p
    c.parse_item_line.new.parser (λ s. after_numbered (map item_tree c.args.items.now.items) (reader.line (counters_of c.args.numerator.now) s)) in
    subst P c.in_default.ensures.moves c.parse_item_line.ensures.reads
