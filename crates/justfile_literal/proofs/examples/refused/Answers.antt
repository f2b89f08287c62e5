use Rattle.std.proofs.Common.{refl}
use Rattle.std.specs.Char.{encode_utf8}
use Rattle.std.specs.Str.{chars, is_utf8}
use Rattle.std.proofs.lemmas.Str.{IsUtf8-from_is_utf8}
use Rattle.justfile_model.specs.LiteralTexts.FirstPiece.{cook_within}
use Rattle.justfile_literal.proofs.Texts.{fault_sound}
use Rattle.justfile_literal.proofs.examples.refused.Goals as goal

pub returns : goal.returns
unfolding cook_within chars encode_utf8 is_utf8
returns c = record {
  unknown = fault_sound _ _ (IsUtf8-from_is_utf8 _ refl) refl;
  unknown_two_bytes = fault_sound _ _ (IsUtf8-from_is_utf8 _ refl) refl;
  lone_return = fault_sound _ _ (IsUtf8-from_is_utf8 _ refl) refl;
  lone_return_at_end = fault_sound _ _ (IsUtf8-from_is_utf8 _ refl) refl;
  no_brace = fault_sound _ _ (IsUtf8-from_is_utf8 _ refl) refl;
  empty = fault_sound _ _ (IsUtf8-from_is_utf8 _ refl) refl;
  no_digit = fault_sound _ _ (IsUtf8-from_is_utf8 _ refl) refl;
  after_digits = fault_sound _ _ (IsUtf8-from_is_utf8 _ refl) refl;
  seven_digits = fault_sound _ _ (IsUtf8-from_is_utf8 _ refl) refl;
  eight_digits = fault_sound _ _ (IsUtf8-from_is_utf8 _ refl) refl;
  surrogate = fault_sound _ _ (IsUtf8-from_is_utf8 _ refl) refl;
  too_great = fault_sound _ _ (IsUtf8-from_is_utf8 _ refl) refl;
  backslash_at_end = fault_sound _ _ (IsUtf8-from_is_utf8 _ refl) refl;
  u_at_end = fault_sound _ _ (IsUtf8-from_is_utf8 _ refl) refl;
  brace_at_end = fault_sound _ _ (IsUtf8-from_is_utf8 _ refl) refl;
  digits_at_end = fault_sound _ _ (IsUtf8-from_is_utf8 _ refl) refl;
  first_decides = fault_sound _ _ (IsUtf8-from_is_utf8 _ refl) refl;
}
