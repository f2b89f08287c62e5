use Rattle.std.proofs.Common.{List, map, sym, subst}
use Rattle.std.specs.Prelude.{IfOk, IfSome}
use Rattle.justfile_model.specs.Lexing.SignificantTokens.{TableToken}
use Rattle.justfile_model.specs.Lexing.Tok.{tok_of}
use Rattle.justfile_parse_expression.specs.Conditions.{conditions_of}
use Rattle.justfile_parse_expression.specs.FormatStrings.{IsTable}
use Rattle.justfile_parse_file.specs.MethodResults.{IsReadFile}
use Rattle.justfile_parse.specs.Parts.{IsPart}
use Rattle.justfile_parse.proofs.Read.{part_if}
use Rattle.justfile_parse.proofs.Tables.{part_table}
use Rattle.justfile_parse.proofs.part.parse_part.Goals as goal

pub parse_significant-requires : goal.parse_significant-requires
parse_significant-requires g c =
    let t = c.in-Ok.ensures.table in
    let off = c.take_next.ensures.cut_off c.if-not-take_next.false c.args.src.now (map tok_of t.tokens) c.utf8.src t.lexed t.significant.marked in
    subst IsTable (sym c.as_slice.ensures.value)
    (part_table c.args.path.now c.args.src.now c.utf8.src c.in-Ok.table.items c.take_next.new.table.items t off (c.take_next.ensures.kept c.if-not-take_next.false))

pub returns : goal.returns
returns g c =
    let t = c.in-Ok.ensures.table in
    let off = c.take_next.ensures.cut_off c.if-not-take_next.false c.args.src.now (map tok_of t.tokens) c.utf8.src t.lexed t.significant.marked in
    let conditions = conditions_of g.X.Expander.answer c.args.expander.now c.args.current c.args.limit in
    let old = c.new-numerator.result in
    let new = c.parse_significant.new.numerator in
    let P : List TableToken → Type 0 = λ table. IfOk c.parse_significant.result (IsReadFile conditions table c.args.source.now old new) in
    subst (λ o. IfSome o (IsPart conditions c.args.path.now c.args.src.now c.args.source.now.file_depth c.args.source.now.import_offsets.now)) (sym c.ok.ensures.value)
    (part_if conditions c.args.path.now c.args.src.now c.utf8.src c.in-Ok.table.items c.take_next.new.table.items t off (c.take_next.ensures.kept c.if-not-take_next.false)
    c.args.source.now old new c.parse_significant.result (subst P c.as_slice.ensures.value c.parse_significant.ensures.file))
