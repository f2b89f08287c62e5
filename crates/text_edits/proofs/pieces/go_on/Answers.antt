use Rattle.std.proofs.Common.{◌≡◌, ◌∙◌, true, length, sym, subst, arith}
use Rattle.justfile_lines.specs.Going.{first_place, is_past}
use Rattle.justfile_lines.specs.declared.position.Place.{Place}
use Rattle.text_edits.specs.Pieces.{Leads}
use Rattle.text_edits.proofs.Cut.{beyond_is, ends_up_to, passed_whole, place_in_text, room, size_offset, sized_in_text, sized_less}
use Rattle.text_edits.proofs.pieces.go_on.Goals as goal

pub size_of-size-requires-clause-short : goal.size_of-size-requires-clause-short
size_of-size-requires-clause-short c =
    omega (
      arith,
      room c.args.encoding c.pieces.before.items c.pieces.here c.pieces.after.items c.pop.new.self.items c.in-Some.piece _ c.pieces.invariant.leads c.in-Some.ensures.items c.pieces.invariant.same
          c.requires.short,
    )

pub size_of-size-requires-clause-sized : goal.size_of-size-requires-clause-sized
size_of-size-requires-clause-sized c = (sized_less c.args.encoding c.pieces.after.items c.pop.new.self.items c.in-Some.piece c.in-Some.ensures.items c.pieces.invariant.sized).1

pub after_size-beyond-requires-clause-short : goal.after_size-beyond-requires-clause-short
after_size-beyond-requires-clause-short c =
    omega (
      arith,
      room c.args.encoding c.pieces.before.items c.pieces.here c.pieces.after.items c.pop.new.self.items c.in-Some.piece _ c.pieces.invariant.leads c.in-Some.ensures.items c.pieces.invariant.same
          c.requires.short,
      size_offset c.args.encoding c.size_of-size.result c.in-Some.piece.text.now c.size_of-size.ensures,
    )

pub after_size-beyond-requires-clause-place : goal.after_size-beyond-requires-clause-place
after_size-beyond-requires-clause-place c = place_in_text c.args.encoding c.pieces.before.items c.pieces.here c.pieces.invariant.leads

pub after_size-beyond-requires-clause-size : goal.after_size-beyond-requires-clause-size
after_size-beyond-requires-clause-size c =
    sized_in_text c.args.encoding c.size_of-size.result c.in-Some.piece.text.now c.size_of-size.ensures

pub go_into-requires-clause-sized : goal.go_into-requires-clause-sized
go_into-requires-clause-sized c = (sized_less c.args.encoding c.pieces.after.items c.pop.new.self.items c.in-Some.piece c.in-Some.ensures.items c.pieces.invariant.sized).0

pub go_into-requires-clause-size : goal.go_into-requires-clause-size
go_into-requires-clause-size c = c.size_of-size.ensures

pub go_into-requires-clause-past : goal.go_into-requires-clause-past
go_into-requires-clause-past c =
    subst (λ (q : Place). is_past c.args.position q ≡ true)
    (beyond_is c.args.encoding c.pieces.here c.size_of-size.result c.after_size-beyond.result c.in-Some.piece.text.now c.size_of-size.ensures c.after_size-beyond.ensures)
    (sym c.is_past.ensures ∙ c.if-is_past.true)

pub go_into-requires-clause-short : goal.go_into-requires-clause-short
go_into-requires-clause-short c =
    room c.args.encoding c.pieces.before.items c.pieces.here c.pieces.after.items c.pop.new.self.items c.in-Some.piece _ c.pieces.invariant.leads c.in-Some.ensures.items c.pieces.invariant.same
    c.requires.short

pub pieces-preserved : goal.pieces-preserved
pieces-preserved c =
    let sized = sized_less c.args.encoding c.pieces.after.items c.pop.new.self.items c.in-Some.piece c.in-Some.ensures.items c.pieces.invariant.sized in
    let beyond = beyond_is c.args.encoding c.pieces.here c.size_of-size.result c.after_size-beyond.result c.in-Some.piece.text.now c.size_of-size.ensures c.after_size-beyond.ensures in
    record {
      same =
          passed_whole c.pieces.before.items c.push_passed.new.before.items c.pieces.after.items c.pop.new.self.items c.in-Some.piece c.in-Some.ensures.items c.in_ok-push_passed.ensures.text
          ∙ c.pieces.invariant.same;
      sized = sized.0;
      leads =
          subst (Leads c.args.encoding first_place c.push_passed.new.before.items) (sym beyond) (c.in_ok-push_passed.ensures.leads c.args.encoding c.pieces.invariant.leads);
      up_to = sym c.is_past.ensures ∙ c.if-is_past.false;
    }

pub returns-clause-reaches : goal.returns-clause-reaches
returns-clause-reaches c =
    let none : length c.pieces.after.items ≡ 0 = omega (arith, c.in_default.ensures.cases) in
    ends_up_to c.args.encoding c.pieces.before.items c.pieces.here c.pieces.after.items _ c.args.position c.pieces.invariant.leads none c.pieces.invariant.same c.pieces.invariant.up_to
