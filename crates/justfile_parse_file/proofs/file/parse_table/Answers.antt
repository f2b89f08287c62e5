use Rattle.std.proofs.Common.{◌≡◌, subst, map, Ok, Err, Option, arith}
use Rattle.justfile_model.specs.Readers.ReaderState.{NoNumber}
use Rattle.justfile_parse_expression.specs.Conditions.{conditions_of}
use Rattle.justfile_parse_docs.specs.ParsedItems as reader
use Rattle.justfile_parse_expression.specs.TableReader.{Run, State}
use Rattle.justfile_parse_base.specs.ParseErrors.{IsParseError}
use Rattle.justfile_parse_file.specs.ErrorFaults.{IsFaultOfError}
use Rattle.justfile_parse_file.specs.MethodResults.{run_from}
use Rattle.justfile_parse_docs.specs.ParsedItems.{item_tree}
use Rattle.justfile_parse_expression.specs.View.{state_of}
use Rattle.justfile_parse_expression.specs.Significant.{TableToken}
use Rattle.justfile_parse_expression.proofs.Rest.{noted_is}
use Rattle.justfile_parse_file.proofs.FileResults.{read_of, unread}
use Rattle.justfile_parse_file.proofs.file.parse_table.Goals as goal
use Rattle.justfile_parse_base.specs.Counting.{counters_of}

pub returns-in-Ok-clause-ok : goal.returns-in-Ok-clause-ok
returns-in-Ok-clause-ok g c =
    let A = g.X.Expander.answer in
    let p = c.parse_file.new.parser in
    let run : Run = run_from (conditions_of A c.args.expander.now c.args.current c.args.limit) c.args.tokens.now c.args.source.now in
    let found = c.in-Ok.ensures.reads in
    let P : State → Type 0 = λ s. reader.file (counters_of c.args.numerator.now) s ≡ Ok ((map item_tree found.plain, counters_of c.parse_file.new.numerator), state_of A p) in
    read_of run run.conditions.limit (omega arith) c.args.numerator.now c.parse_file.new.numerator found.plain c.in-Ok.items.items p.list_features.items (state_of A p)
    (subst P c.new-parser.ensures found.read) (noted_is A p) found.documents c.in-Ok.ensures.fields

pub returns-clause-err : goal.returns-clause-err
returns-clause-err g c =
    let A = g.X.Expander.answer in
    let p = c.parse_file.new.parser in
    let n = counters_of c.args.numerator.now in
    let m = counters_of c.parse_file.new.numerator in
    let run : Run = run_from (conditions_of A c.args.expander.now c.args.current c.args.limit) c.args.tokens.now c.args.source.now in
    let P : State → Type 0 = λ s. IsParseError c.in-Err.error (state_of A p) (reader.file n s ≡ Err (NoNumber m)) (reader.file n s) in
    let Q : Option TableToken → Type 0 = λ next. IsFaultOfError c.args.tokens.now next c.in-Err.error c.make_fault.result in
    unread run c.args.numerator.now c.parse_file.new.numerator (state_of A p) c.in-Err.error c.make_fault.result
    (subst P c.new-parser.ensures c.in-Err.ensures.reads) (subst Q c.peek_front.ensures c.make_fault.ensures)
