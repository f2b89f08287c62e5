use Rattle.justfile_parse_base.specs.Counting.{counters_of}
use Rattle.justfile_parse_docs.proofs.DocumentedLines.{line_documented, line_refused}
use Rattle.justfile_parse_expression.specs.View.{state_of}
use Rattle.justfile_parse_item.specs.ItemTable as reader
use Rattle.justfile_parse_item.proofs.DerivedItemFields.{then_fields}
use Rattle.justfile_parse_docs.proofs.items.parse_line_after.Goals as goal

pub document_line-requires : goal.document_line-requires
document_line-requires g c = then_fields c.args.items.now.items c.parse_line.new.items.items c.requires.fields c.in-Ok.ensures.fields

pub returns-in-Ok-clause-reads : goal.returns-in-Ok-clause-reads
returns-in-Ok-clause-reads g c =
    let A = g.X.Expander.answer in
    let call = c.document_line in
    line_documented c.args.items.now.items c.parse_line.new.items.items call.new.items.items c.parse_line.new.numerator (state_of A c.parse_line.new.parser)
    (reader.line (counters_of c.args.numerator.now) (state_of A c.args.parser.now)) c.args.count c.requires.counted call.result c.in-Ok.ensures.reads call.ensures.trees call.ensures.memory

pub returns-in-Err-clause-reads : goal.returns-in-Err-clause-reads
returns-in-Err-clause-reads g c =
    line_refused c.args.items.now.items _ c.in-Err.error (state_of g.X.Expander.answer c.parse_line.new.parser) _ c.in-Err.ensures.reads
