use Rattle.std.proofs.Common.{◌≡◌, Ok, ap, subst, sym}
use Rattle.std.specs.Prelude.{ℕ}
use Rattle.justfile_token.specs.declared.token.Token.{Token}
use Rattle.justfile_expression.specs.LeafTree.{Leaf}
use Rattle.justfile_model.specs.Readers.Reader as files
use Rattle.justfile_model.specs.Trees.Tree.{OrderedItem}
use Rattle.justfile_parse_expression.specs.TableReader.{leaves}
use Rattle.justfile_parse_expression.specs.View.{state_of}
use Rattle.justfile_parse_expression.specs.declared.parser_state.ParserState.{ParserState}
use Rattle.justfile_parse_item.specs.MethodResults.{CountersMoved}
use Rattle.justfile_parse_base.specs.Counting.{counters_of, identifiers_left}
use Rattle.justfile_parse_item.specs.ItemTable.{ReadItem, any_item}
use Rattle.justfile_parse_item.proofs.Pushes.{reads}
use Rattle.justfile_parse_item.proofs.Hashes.{begins_hash}
use Rattle.justfile_parse_item.proofs.items.parse_item.Goals as goal

pub make_comment-requires : goal.make_comment-requires
make_comment-requires g c = begins_hash c.in-Some.field-0.now c.in-Some.ensures.table_token

pub parse_construct-requires : goal.parse_construct-requires
parse_construct-requires g c =
    let A = g.X.Expander.answer in
    let P : ParserState _ → Type 0 = λ p. (state_of A p).depth ≡ 0 in
    subst P (sym c.in_default.ensures.moves) c.requires

pub returns-clause-moved : goal.returns-clause-moved
returns-clause-moved g c =
    let A = g.X.Expander.answer in
    let P : ParserState _ → Type 0 = λ p. CountersMoved c.args.numerator.now c.parse_construct.new.numerator (identifiers_left (state_of A p)) in
    subst P c.in_default.ensures.moves c.parse_construct.ensures.moved

pub returns-in-Some-clause-reads : goal.returns-in-Some-clause-reads
unfolding files.any_item leaves
returns-in-Some-clause-reads g c =
    let A = g.X.Expander.answer in
    let n = counters_of c.args.numerator.now in
    reads c.make_comment.result c.args.items.now.items c.push_parsed_item.new.items.items c.push_parsed_item.result c.args.numerator.now (state_of A c.accept.new.self)
    (any_item n (state_of A c.args.parser.now)) c.push_parsed_item.ensures
    (rw (c.in-Some.ensures.takes) (ap (λ (i : OrderedItem Leaf Token ℕ). Ok ((i, n), state_of A c.accept.new.self)) (sym c.make_comment.ensures.tree)))
