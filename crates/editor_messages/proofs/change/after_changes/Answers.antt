use Rattle.std.proofs.Common.{refl}
use Rattle.text_edits.specs.Pieces.{text_of}
use Rattle.editor_messages.proofs.Applied.{applied_next}
use Rattle.editor_messages.proofs.change.after_changes.Goals as goal

pub loop-change-preserved : goal.loop-change-preserved
loop-change-preserved c = record {
  same = c.in_ok-pieces-2.ensures.encoding;
  applied =
      applied_next c.args.encoding c.args.text.now c.args.changes.now c.loop-change.change-index _ (text_of c.loop-change.pieces.before.items c.loop-change.pieces.after.items) _
      (text_of c.in_ok-pieces-2.pieces.before.items c.in_ok-pieces-2.pieces.after.items) c.loop-change-test.true c.loop-change.invariant.applied refl c.in_ok-pieces-2.ensures.text;
}
