use Rattle.std.proofs.Common.{◌≡◌, drop, length}
use Rattle.std.specs.Str.{IsCharBoundary}
use Rattle.justfile_lines.specs.declared.encoding.Encoding.{Encoding}
use Rattle.text_edits.specs.Pieces.{AreSized, text_after}
use Rattle.text_edits.proofs.pieces.skip.Given as goal

abbrev pub invariant-pieces : goal.invariant-pieces
invariant-pieces l = record {
  same : drop l.left (text_after l.after.items) ≡ drop l.fn.count (text_after l.fn.after.items);
  sized : (encoding : Encoding) → AreSized encoding l.fn.after.items → AreSized encoding l.after.items;
  bound : IsCharBoundary (text_after l.after.items) l.left;
}

abbrev pub decreases-pieces : goal.decreases-pieces
decreases-pieces l = length l.after.items
