use Rattle.std.proofs.Common.{◌≡◌, ◌≤◌, length, take}
use Rattle.line_diff.specs.Edits.{new_lines, old_lines}
use Rattle.line_diff.proofs.hunks.line_counts.Given as goal

abbrev pub invariant-loop-edit : goal.invariant-loop-edit
invariant-loop-edit l = record {
  old_is : l.old ≡ length (old_lines (take l.edit-index l.edits));
  new_is : l.new ≡ length (new_lines (take l.edit-index l.edits));
  old_small : l.old ≤ l.edit-index;
  new_small : l.new ≤ l.edit-index;
}
