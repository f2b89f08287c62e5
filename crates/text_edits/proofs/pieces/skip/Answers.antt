use Rattle.std.proofs.Common.{refl}
use Rattle.text_edits.proofs.Cut.{bound_past, sized_less, skipped}
use Rattle.text_edits.proofs.pieces.skip.Goals as goal

pub pieces-init : goal.pieces-init
pieces-init c = record { same = refl; sized = λ encoding sized. sized; bound = c.requires }

pub pieces-preserved : goal.pieces-preserved
pieces-preserved c = record {
  same = skipped c.pieces.after.items c.pop.new.self.items c.in-Some.piece c.pieces.left _ c.in-Some.ensures.items c.if-left-piece.false c.pieces.invariant.same;
  sized = λ encoding sized. (sized_less encoding c.pieces.after.items c.pop.new.self.items c.in-Some.piece c.in-Some.ensures.items (c.pieces.invariant.sized encoding sized)).0;
  bound = bound_past c.pieces.after.items c.pop.new.self.items c.in-Some.piece c.pieces.left c.in-Some.ensures.items c.if-left-piece.false c.pieces.invariant.bound;
}

pub returns-then-left-piece-clause-sized : goal.returns-then-left-piece-clause-sized
returns-then-left-piece-clause-sized c =
    λ encoding sized.
    c.in_ok-push_next.ensures.sized encoding
    (sized_less encoding c.pieces.after.items c.pop.new.self.items c.in-Some.piece c.in-Some.ensures.items (c.pieces.invariant.sized encoding sized)).0
