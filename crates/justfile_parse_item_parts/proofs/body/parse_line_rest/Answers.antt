use Rattle.std.proofs.Common.{◌≡◌, ◌<◌, sym, subst, map, None}
use Rattle.std.proofs.lemmas.Result.{err_from_is_err_and}
use Rattle.justfile_vocabulary.specs.declared.token_kind.TokenKind.TheVariants as kinds
use Rattle.justfile_model.specs.Readers.ReaderState.{prepend}
use Rattle.justfile_parse_expression.specs.TableReader.{accept}
use Rattle.justfile_parse_item_parts.specs.BodyTable.{line_rest}
use Rattle.justfile_parse_item_parts.specs.BodyTrees.{fragment_tree}
use Rattle.justfile_parse_expression.specs.View.{tokens_left, state_of}
use Rattle.justfile_parse_expression.specs.declared.parser_state.ParserState.{ParserState}
use Rattle.justfile_parse_item_parts.proofs.Bodies.{begins, line_stops}
use Rattle.justfile_parse_item_parts.proofs.body.parse_line_rest.Goals as goal

pub fragments-init : goal.fragments-init
fragments-init g c =
    let s = state_of g.X.Expander.answer c.args.parser.now in
    rw c.in_ok-fragments.ensures.items (begins (line_rest s))

pub fragments-smaller : goal.fragments-smaller
fragments-smaller g c =
    let P : ParserState _ → Type 0 = λ p. tokens_left c.push_fragment.new.parser < tokens_left p in
    subst P c.in_default.ensures.moves c.in_ok-push_fragment.ensures.progress

pub returns-in_err-push_fragment : goal.returns-in_err-push_fragment
returns-in_err-push_fragment g c =
    let A = g.X.Expander.answer in
    let done = c.fragments.fragments.items in
    let p = err_from_is_err_and c.from_residual-in_err-push_fragment.result c.from_residual-in_err-push_fragment.ensures.1 in
    let P : ParserState _ → Type 0 = λ q. prepend (map fragment_tree done) (line_rest (state_of A q)) ≡ line_rest (state_of A c.args.parser.now) in
    let Q : ParserState _ → Type 0 = λ q. accept kinds.Eol (state_of A q) ≡ None in
    let here = sym c.in_default.ensures.moves in
    rw (p.1, p.2)
    (line_stops (state_of A c.args.parser.now) (state_of A c.accept.new.self) done (subst P here c.fragments.invariant) (subst Q here c.in_default.ensures.takes) (sym c.if-peek_kinds.ensures.next)
    c.in_err-push_fragment.field-0.0 (state_of A c.push_fragment.new.parser) c.in_err-push_fragment.ensures.reads)
