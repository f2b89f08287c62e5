use Rattle.std.proofs.Common.{None}
use Rattle.text_edits.proofs.Cut.{sized_more}
use Rattle.text_edits.proofs.pieces.push_next.Goals as goal

pub returns-clause-sized : goal.returns-clause-sized
returns-clause-sized c =
    λ encoding sized. sized_more encoding c.args.after.now.items c.push.new.self.items (record { text = c.args.text; size = None }) c.in_ok-push.ensures.items sized tt
