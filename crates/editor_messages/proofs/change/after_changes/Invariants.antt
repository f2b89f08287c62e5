use Rattle.std.proofs.Common.{◌≡◌, take}
use Rattle.text_edits.specs.Pieces.{text_of}
use Rattle.editor_messages.specs.Changes.{AreApplied}
use Rattle.editor_messages.proofs.change.after_changes.Given as goal

abbrev pub invariant-loop-change : goal.invariant-loop-change
invariant-loop-change l = record {
  same : l.pieces.encoding ≡ l.encoding;
  applied : AreApplied l.encoding l.text (take l.change-index l.changes) (text_of l.pieces.before.items l.pieces.after.items);
}
