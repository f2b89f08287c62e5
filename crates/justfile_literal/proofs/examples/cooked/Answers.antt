use Rattle.std.proofs.Common.{refl}
use Rattle.std.specs.Char.{encode_utf8}
use Rattle.std.specs.Str.{chars, is_utf8}
use Rattle.std.proofs.lemmas.Str.{IsUtf8-from_is_utf8}
use Rattle.justfile_model.specs.LiteralTexts.FirstPiece.{cook_within}
use Rattle.justfile_literal.proofs.Texts.{cooked_sound}
use Rattle.justfile_literal.proofs.examples.cooked.Goals as goal

pub returns : goal.returns
unfolding cook_within chars encode_utf8 is_utf8
returns c = record {
  empty = cooked_sound _ _ (IsUtf8-from_is_utf8 _ refl) refl;
  plain = cooked_sound _ _ (IsUtf8-from_is_utf8 _ refl) refl;
  line_feed = cooked_sound _ _ (IsUtf8-from_is_utf8 _ refl) refl;
  carriage_return = cooked_sound _ _ (IsUtf8-from_is_utf8 _ refl) refl;
  tab = cooked_sound _ _ (IsUtf8-from_is_utf8 _ refl) refl;
  backslash = cooked_sound _ _ (IsUtf8-from_is_utf8 _ refl) refl;
  quote = cooked_sound _ _ (IsUtf8-from_is_utf8 _ refl) refl;
  joined = cooked_sound _ _ (IsUtf8-from_is_utf8 _ refl) refl;
  joined_crlf = cooked_sound _ _ (IsUtf8-from_is_utf8 _ refl) refl;
  one_digit = cooked_sound _ _ (IsUtf8-from_is_utf8 _ refl) refl;
  two_digits = cooked_sound _ _ (IsUtf8-from_is_utf8 _ refl) refl;
  six_digits = cooked_sound _ _ (IsUtf8-from_is_utf8 _ refl) refl;
  raw_braces = cooked_sound _ _ (IsUtf8-from_is_utf8 _ refl) refl;
}
