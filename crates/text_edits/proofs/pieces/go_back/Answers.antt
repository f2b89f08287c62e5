use Rattle.std.proofs.Common.{◌∙◌, Some, refl}
use Rattle.text_edits.proofs.Cut.{last_size, leads_back, moved_back, sized_more}
use Rattle.text_edits.proofs.pieces.go_back.Goals as goal

pub pieces-preserved : goal.pieces-preserved
pieces-preserved c = record {
  same =
      moved_back c.pop.new.self.items c.pieces.before.items c.pieces.after.items c.push.new.self.items c.in-Some.piece (record { text = c.in-Some.piece.text; size = Some c.size_from.result })
      c.in-Some.ensures.items refl c.in_ok-push.ensures.items
      ∙ c.pieces.invariant.same;
  sized =
      sized_more c.args.encoding c.pieces.after.items c.push.new.self.items (record { text = c.in-Some.piece.text; size = Some c.size_from.result }) c.in_ok-push.ensures.items c.pieces.invariant.sized
      (last_size c.args.encoding c.pop.new.self.items c.pieces.before.items c.in-Some.piece c.pieces.here c.size_from.result c.in-Some.ensures.items c.pieces.invariant.leads c.size_from.ensures);
  leads = leads_back c.args.encoding c.pop.new.self.items c.pieces.before.items c.in-Some.piece c.pieces.here c.in-Some.ensures.items c.pieces.invariant.leads;
}
