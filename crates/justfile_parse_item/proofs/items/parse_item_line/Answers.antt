use Rattle.std.proofs.Common.{map}
use Rattle.std.proofs.lemmas.Result.{err_from_is_err_and}
use Rattle.justfile_model.specs.Readers.ReaderState as reading
use Rattle.justfile_parse_base.specs.Counting.{counters_of}
use Rattle.justfile_parse_expression.specs.View.{state_of}
use Rattle.justfile_parse_item.specs.Pushes.{last_tree}
use Rattle.justfile_parse_item.specs.Tree.{item_tree}
use Rattle.justfile_parse_item.proofs.DerivedItemFields.{both_fields}
use Rattle.justfile_parse_item.proofs.Lines.{end_stops, line_goes_on, line_errs}
use Rattle.justfile_parse_item.proofs.items.parse_item_line.Goals as goal

pub parse_item-requires : goal.parse_item-requires
parse_item-requires g c = c.requires.closed

pub returns-in_err-parse_item-clause-reads : goal.returns-in_err-parse_item-clause-reads
returns-in_err-parse_item-clause-reads g c =
    let A = g.X.Expander.answer in
    let p = err_from_is_err_and c.from_residual.result c.from_residual.ensures.1 in
    rw (p.1, p.2)
    (line_errs (map item_tree c.args.items.now.items) (state_of A c.args.parser.now) (counters_of c.args.numerator.now) c.in_err-parse_item.field-0.0
    (state_of A c.parse_item.new.parser) (reading.NoNumber (counters_of c.parse_item.new.numerator)) c.requires.item c.in_err-parse_item.ensures.reads)

pub returns-in_err-end_item-clause-reads : goal.returns-in_err-end_item-clause-reads
returns-in_err-end_item-clause-reads g c =
    let A = g.X.Expander.answer in
    let p = err_from_is_err_and c.from_residual-in_err-end_item.result c.from_residual-in_err-end_item.ensures.1 in
    rw (p.1, p.2)
    (end_stops (map item_tree c.args.items.now.items) (state_of A c.args.parser.now) (counters_of c.args.numerator.now) (last_tree c.parse_item.new.items.items)
    (counters_of c.parse_item.new.numerator) (state_of A c.parse_item.new.parser) c.requires.item c.in_ok-parse_item.ensures.reads c.in_err-end_item.field-0.0
    (state_of A c.end_item.new.parser) _ (rw (c.in_ok-parse_item.ensures.appended.trees) at c.in_err-end_item.ensures.reads))

pub returns-clause-reads : goal.returns-clause-reads
returns-clause-reads g c =
    let A = g.X.Expander.answer in
    line_goes_on (map item_tree c.args.items.now.items) (state_of A c.args.parser.now) (counters_of c.args.numerator.now) (last_tree c.parse_item.new.items.items)
    (counters_of c.parse_item.new.numerator) (state_of A c.parse_item.new.parser) c.requires.item c.in_ok-parse_item.ensures.reads (map item_tree c.end_item.new.items.items)
    (state_of A c.end_item.new.parser) (rw (c.in_ok-parse_item.ensures.appended.trees) at c.in_ok-end_item.ensures.reads)

pub returns-clause-fields : goal.returns-clause-fields
returns-clause-fields g c =
    both_fields c.args.items.now.items c.parse_item.new.items.items c.end_item.new.items.items c.in_ok-parse_item.ensures.appended.fields c.in_ok-end_item.ensures.fields
