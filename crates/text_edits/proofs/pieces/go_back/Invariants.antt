use Rattle.std.proofs.Common.{◌≡◌, length}
use Rattle.justfile_lines.specs.Going.{first_place}
use Rattle.text_edits.specs.Pieces.{AreSized, Leads, text_of}
use Rattle.text_edits.proofs.pieces.go_back.Given as goal

abbrev pub invariant-pieces : goal.invariant-pieces
invariant-pieces l = record {
  same : text_of l.before.items l.after.items ≡ text_of l.fn.before.items l.fn.after.items;
  sized : AreSized l.fn.encoding l.after.items;
  leads : Leads l.fn.encoding first_place l.before.items l.here;
}

abbrev pub decreases-pieces : goal.decreases-pieces
decreases-pieces l = length l.before.items
