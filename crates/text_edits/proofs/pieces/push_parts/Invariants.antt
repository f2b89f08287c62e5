use Rattle.std.proofs.Common.{◌≡◌, ◌++◌, length}
use denote.Text.{Utf8}
use denote.Shadow.{shadow}
use Rattle.justfile_lines.specs.declared.encoding.Encoding.{Encoding}
use Rattle.text_edits.specs.Pieces.{AreSized, text_after}
use Rattle.text_edits.proofs.pieces.push_parts.Given as goal

abbrev pub invariant-loop-rest : goal.invariant-loop-rest
invariant-loop-rest l = record {
  utf8 : shadow (Utf8 l.rest);
  sized : (encoding : Encoding) → AreSized encoding l.fn.after.items → AreSized encoding l.after.items;
  text : l.rest ++ text_after l.after.items ≡ l.fn.text ++ text_after l.fn.after.items;
}

abbrev pub decreases-loop-rest : goal.decreases-loop-rest
decreases-loop-rest l = length l.rest
