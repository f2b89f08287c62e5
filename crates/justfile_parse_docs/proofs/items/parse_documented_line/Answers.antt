use Rattle.std.proofs.Common.{◌∙◌, List, ap, length, subst, sym}
use Rattle.justfile_item.specs.declared.item.Item.{Item}
use Rattle.justfile_parse_base.specs.Counting.{counters_of}
use Rattle.justfile_parse_docs.specs.ReadItems.{ReadsLine}
use Rattle.justfile_parse_expression.specs.View.{state_of}
use Rattle.justfile_parse_item.specs.DerivedFields.{HaveDerivedFields}
use Rattle.justfile_parse_item.specs.ItemTable as reader
use Rattle.justfile_parse_docs.proofs.items.parse_documented_line.Goals as goal

pub parse_line_after-requires-clause-fields : goal.parse_line_after-requires-clause-fields
parse_line_after-requires-clause-fields g c = subst HaveDerivedFields (sym c.count_items-count.ensures.unchanged) c.requires.fields

pub parse_line_after-requires-clause-counted : goal.parse_line_after-requires-clause-counted
parse_line_after-requires-clause-counted g c =
    c.count_items-count.ensures.count ∙ ap (λ (l : List Item). length l) (sym c.count_items-count.ensures.unchanged)

pub returns-clause-reads : goal.returns-clause-reads
returns-clause-reads g c =
    let A = g.X.Expander.answer in
    let call = c.parse_line_after in
    let found = reader.line (counters_of c.args.numerator.now) (state_of A c.args.parser.now) in
    let P : List Item → Type 0 = λ items. ReadsLine call.result items call.new.items.items call.new.numerator (state_of A call.new.parser) found in
    subst P c.count_items-count.ensures.unchanged call.ensures.reads
