use Rattle.std.proofs.Common.{◌≡◌, ◌≤◌, length, take, chars}
use Rattle.justfile_model.specs.LiteralTexts.Cook.{AreHex}
use Rattle.justfile_literal_parts.proofs.escape.hex_len.Given as goal

-- the characters so far are digits
abbrev pub invariant-loop-character : goal.invariant-loop-character
invariant-loop-character l = record {
  yielded : l.count ≡ length l.yielded;
  most : l.count ≤ 7;
  digits : AreHex (take l.count (chars l.text));
}
