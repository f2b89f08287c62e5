use Rattle.std.proofs.Common.{◌≡◌, Ok, refl, subst}
use Rattle.justfile_line.specs.declared.fragment.Fragment.TheVariants as fragments
use Rattle.justfile_parse_item_parts.specs.BodyTable.{interpolation}
use Rattle.justfile_parse_item_parts.specs.BodyTrees.{fragment_tree}
use Rattle.justfile_parse_expression.specs.View.{state_of}
use Rattle.justfile_parse_expression.specs.declared.parser_state.ParserState.{ParserState}
use Rattle.justfile_parse_item_parts.proofs.Bodies.{one_interpolation, one_text}
use Rattle.justfile_parse_item_parts.proofs.body.push_fragment.Goals as goal

pub returns-in-Some-clause-reads : goal.returns-in-Some-clause-reads
returns-in-Some-clause-reads g c =
    let A = g.X.Expander.answer in
    one_text c.args.fragments.now.items c.reserve.new.self.items c.push_reserved.new.self.items (fragments.Text c.in-Some.field-0.now.0)
    c.reserve.ensures.items c.push_reserved.ensures.items
    (state_of A c.args.parser.now) (state_of A c.accept.new.self) c.in-Some.field-0.now refl c.in-Some.ensures.takes

pub returns-clause-reads : goal.returns-clause-reads
returns-clause-reads g c =
    let A = g.X.Expander.answer in
    let f = c.in_ok-parse_interpolation.field-0 in
    let P : ParserState _ → Type 0 = λ p. interpolation (state_of A p) ≡ Ok (fragment_tree f, state_of A c.parse_interpolation.new.parser) in
    one_interpolation c.args.fragments.now.items c.reserve.new.self.items c.push_reserved-2.new.self.items f c.reserve.ensures.items c.push_reserved-2.ensures.items
    (state_of A c.args.parser.now) (state_of A c.parse_interpolation.new.parser) c.in_default.ensures.takes (subst P c.in_default.ensures.moves c.in_ok-parse_interpolation.ensures.reads)
