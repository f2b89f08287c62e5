use Rattle.std.proofs.Common.{◌≡◌, ◌++◌, [], None, ap, arith, map, subst, sym}
use Rattle.std.proofs.lemmas.Result.{err_from_is_err_and}
use Rattle.justfile_vocabulary.specs.declared.token_kind.TokenKind.TheVariants as kinds
use Rattle.justfile_model.specs.Readers.ReaderState as reading
use Rattle.justfile_parse_base.specs.Counting.{counters_of}
use Rattle.justfile_parse_docs.proofs.DocumentedLines.{all_documented, still_documented}
use Rattle.justfile_parse_expression.specs.TableReader.{accept}
use Rattle.justfile_parse_expression.specs.View.{tokens_left, state_of}
use Rattle.justfile_parse_expression.specs.declared.parser_state.ParserState.{ParserState}
use Rattle.justfile_parse_expression.proofs.Rest.{left_is}
use Rattle.justfile_parse_item.specs.DerivedFields.{HaveDerivedFields}
use Rattle.justfile_parse_item.specs.Tree.{item_tree}
use Rattle.justfile_parse_item.proofs.DerivedItemFields.{none_fields}
use Rattle.justfile_parse_docs.proofs.Loop.{IsReadTo, begins, ends, goes_on, goes_past, errs, line_shrinks}
use Rattle.justfile_parse_docs.proofs.items.parse_items.Goals as goal

pub lines-init : goal.lines-init
lines-init g c =
    let none = sym c.in_ok-items.ensures.items in
    record {
      plain = [];
      read = begins (state_of g.X.Expander.answer c.args.parser.now) c.args.numerator.now c.requires;
      documents = ap (map item_tree) (sym none);
      fields = subst HaveDerivedFields none none_fields;
    }

pub returns-in_err-expect_nothing-clause-reads : goal.returns-in_err-expect_nothing-clause-reads
returns-in_err-expect_nothing-clause-reads g c =
    let A = g.X.Expander.answer in
    let i = c.lines.invariant in
    let p = err_from_is_err_and c.from_residual-in_err-expect_nothing.result c.from_residual-in_err-expect_nothing.ensures.1 in
    rw (p.1, p.2)
    (goes_past (state_of A c.args.parser.now) (state_of A c.lines.parser) c.args.numerator.now c.lines.numerator i.plain i.read
    c.in-Some._end.now (state_of A c.accept.new.self) c.in-Some.ensures.takes c.in_err-expect_nothing.field-0.0 _ c.in_err-expect_nothing.ensures)

pub returns-in-Some-clause-reads : goal.returns-in-Some-clause-reads
returns-in-Some-clause-reads g c =
    let A = g.X.Expander.answer in
    let i = c.lines.invariant in
    all_documented i.plain c.lines.items.items c.lines.numerator (state_of A c.accept.new.self) _ i.documents
    (ends (state_of A c.args.parser.now) (state_of A c.lines.parser) c.args.numerator.now c.lines.numerator i.plain i.read
    c.in-Some._end.now (state_of A c.accept.new.self) c.in-Some.ensures.takes c.in_ok-expect_nothing.ensures)

pub lines-preserved : goal.lines-preserved
lines-preserved g c =
    let A = g.X.Expander.answer in
    let i = c.lines.invariant in
    let line = c.in_ok-parse_documented_line.ensures.reads in
    let here = sym c.in_default.ensures.moves in
    let P : ParserState _ → Type 0 = λ q. IsReadTo (state_of A c.args.parser.now) (state_of A q) c.args.numerator.now c.lines.numerator i.plain in
    let Q : ParserState _ → Type 0 = λ q. accept kinds.Eof (state_of A q) ≡ None in
    record {
      plain = i.plain ++ line.plain;
      read =
          goes_on (state_of A c.args.parser.now) (state_of A c.accept.new.self) c.args.numerator.now c.lines.numerator i.plain (subst P here i.read)
          (subst Q here c.in_default.ensures.takes) c.parse_documented_line.new.numerator line.plain (state_of A c.parse_documented_line.new.parser) line.read;
      documents = still_documented i.plain line.plain c.lines.items.items c.parse_documented_line.new.items.items i.documents line.documents;
      fields = c.in_ok-parse_documented_line.ensures.fields;
    }

pub lines-smaller : goal.lines-smaller
lines-smaller g c =
    let A = g.X.Expander.answer in
    let q = c.accept.new.self in
    let rest = c.parse_documented_line.new.parser in
    let line = c.in_ok-parse_documented_line.ensures.reads in
    omega (
      arith,
      line_shrinks (state_of A q) (counters_of c.lines.numerator) (counters_of c.parse_documented_line.new.numerator) (map item_tree line.plain) (state_of A rest) line.read,
      left_is A q,
      left_is A rest,
      ap (λ (p : ParserState _). tokens_left p) c.in_default.ensures.moves,
    )

pub returns-in_err-parse_documented_line-clause-reads : goal.returns-in_err-parse_documented_line-clause-reads
returns-in_err-parse_documented_line-clause-reads g c =
    let A = g.X.Expander.answer in
    let i = c.lines.invariant in
    let here = sym c.in_default.ensures.moves in
    let p = err_from_is_err_and c.from_residual-in_err-parse_documented_line.result c.from_residual-in_err-parse_documented_line.ensures.1 in
    let P : ParserState _ → Type 0 = λ q. IsReadTo (state_of A c.args.parser.now) (state_of A q) c.args.numerator.now c.lines.numerator i.plain in
    let Q : ParserState _ → Type 0 = λ q. accept kinds.Eof (state_of A q) ≡ None in
    rw (p.1, p.2)
    (errs (state_of A c.args.parser.now) (state_of A c.accept.new.self) c.args.numerator.now c.lines.numerator i.plain (subst P here i.read)
    (subst Q here c.in_default.ensures.takes) c.in_err-parse_documented_line.field-0.0 (state_of A c.parse_documented_line.new.parser)
    (reading.NoNumber (counters_of c.parse_documented_line.new.numerator)) c.in_err-parse_documented_line.ensures.reads)

pub parse_documented_line-requires-clause-closed : goal.parse_documented_line-requires-clause-closed
parse_documented_line-requires-clause-closed g c =
    let A = g.X.Expander.answer in
    let P : ParserState _ → Type 0 = λ q. (state_of A q).depth ≡ 0 in
    subst P (sym c.in_default.ensures.moves) c.lines.invariant.read.depth
