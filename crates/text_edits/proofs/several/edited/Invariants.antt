use Rattle.std.proofs.Common.{string_bytes}
use Rattle.std.specs.Str.{IsCharBoundary}
use Rattle.justfile_lines.specs.Positions.{IsPlace}
use Rattle.text_edits.proofs.Edits.{Applied}
use Rattle.text_edits.proofs.several.edited.Given as goal

abbrev pub invariant-loop-edit : goal.invariant-loop-edit
invariant-loop-edit l = record {
  place : IsPlace l.encoding l.text l.last;
  boundary : IsCharBoundary l.text l.last.offset;
  applied : Applied l.encoding l.text l.edits l.edit-index l.last.offset (string_bytes l.made);
}
