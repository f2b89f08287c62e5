use Rattle.std.proofs.Common.{◌≤◌, ◌-◌, length, string_bytes, take}
use Rattle.editor_messages.specs.Changes.{AreApplied}
use Rattle.editor_messages.proofs.change.changed_text.Given as goal

abbrev pub invariant-changes : goal.invariant-changes
invariant-changes l = record {
  within : l.done ≤ length l.changes;
  applied : AreApplied l.encoding l.text (take l.done l.changes) (string_bytes l.made);
}

abbrev pub decreases-changes : goal.decreases-changes
decreases-changes l = length l.changes - l.done
