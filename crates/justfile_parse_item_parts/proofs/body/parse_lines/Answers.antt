use Rattle.std.proofs.Common.{◌≡◌, ap, sym, subst, map, None, arith}
use Rattle.std.proofs.lemmas.Result.{err_from_is_err_and}
use Rattle.justfile_vocabulary.specs.declared.token_kind.TokenKind.TheVariants as kinds
use Rattle.justfile_model.specs.Readers.ReaderState.{prepend}
use Rattle.justfile_parse_expression.specs.TableReader.{accept}
use Rattle.justfile_parse_item_parts.specs.BodyTable.{lines}
use Rattle.justfile_parse_item_parts.specs.BodyTrees.{line_tree}
use Rattle.justfile_parse_expression.specs.View.{tokens_left, state_of}
use Rattle.justfile_parse_expression.specs.declared.parser_state.ParserState.{ParserState}
use Rattle.justfile_parse_item_parts.proofs.Bodies.{begins, body_line_shrinks, lines_stop}
use Rattle.justfile_parse_expression.proofs.Rest.{left_is}
use Rattle.justfile_parse_item_parts.proofs.body.parse_lines.Goals as goal

pub lines-init : goal.lines-init
lines-init g c =
    let s = state_of g.X.Expander.answer c.args.parser.now in
    rw c.new-lines.ensures.items (begins (lines s))

pub lines-smaller : goal.lines-smaller
lines-smaller g c =
    let A = g.X.Expander.answer in
    let q = c.accept.new.self in
    let b = c.parse_body_line.new.parser in
    let Q : ParserState _ → Type 0 = λ p. accept kinds.Dedent (state_of A p) ≡ None in
    omega (
      arith,
      body_line_shrinks (state_of A q) c.in_ok-line.line (state_of A b) (subst Q (sym c.in_default.ensures.moves) c.in_default.ensures.takes) c.in_ok-line.ensures,
      left_is A q,
      left_is A b,
      ap (λ (p : ParserState _). tokens_left p) c.in_default.ensures.moves,
    )

pub returns-in_err-line : goal.returns-in_err-line
returns-in_err-line g c =
    let A = g.X.Expander.answer in
    let done = c.lines.lines.items in
    let p = err_from_is_err_and c.from_residual.result c.from_residual.ensures.1 in
    let P : ParserState _ → Type 0 = λ q. prepend (map line_tree done) (lines (state_of A q)) ≡ lines (state_of A c.args.parser.now) in
    let Q : ParserState _ → Type 0 = λ q. accept kinds.Dedent (state_of A q) ≡ None in
    let here = sym c.in_default.ensures.moves in
    rw (p.1, p.2)
    (lines_stop (state_of A c.args.parser.now) (state_of A c.accept.new.self) done (subst P here c.lines.invariant) (subst Q here c.in_default.ensures.takes)
    c.in_err-line.field-0.0 (state_of A c.parse_body_line.new.parser) c.in_err-line.ensures)
