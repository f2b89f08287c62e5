use Rattle.std.proofs.Common.{◌≡◌, ◌≤◌, drop}
use Rattle.justfile_completion.specs.Cursor.{item_after, last_item}
use Rattle.justfile_completion.proofs.cursor.item_start.Given as goal

abbrev pub invariant-loop-byte : goal.invariant-loop-byte
invariant-loop-byte l = record {
  at : l.next ≡ l.byte-index;
  within : l.start ≤ l.next;
  item : item_after (drop l.start l.text) (drop l.byte-index l.text) ≡ last_item l.text;
}
