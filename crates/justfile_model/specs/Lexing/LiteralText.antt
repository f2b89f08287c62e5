-- Text that is read byte by byte up to an end: comments, body text, and the inside of literals.
use Rattle.std.specs.Prelude.{ℕ, zero, suc, Bool, ◌||◌, ◌&&◌, ◌==◌, nat_lt, List, [], ◌∷◌, drop, slice_index, if◌then◌else◌}
use Rattle.justfile_token.specs.declared.string_kind.StringKind.{StringKind}
use Rattle.justfile_model.specs.declared.raw_text.RawText.{RawText}
use Rattle.justfile_model.specs.declared.raw_text.RawText.TheVariants.{Comment, Body, Literal}
use Rattle.justfile_token.specs.StringKind.{quote_of, escapes}
use Rattle.justfile_model.specs.Lexing.Bytes.{is_line_end, is_interpolation_start, is_interpolation_escape}
use Rattle.justfile_vocabulary.specs.ByteNames as byte

-- the number of bytes before the first end, where `hides` bytes after a byte can't begin an end, and neither can the byte itself if it
-- hides any
module _ (hides : List ℕ → ℕ) (ends : List ℕ → Bool) where
  unfoldable pub pieces_len : ℕ → List ℕ → ℕ
  pieces_len hidden [] = 0
  pieces_len (suc hidden) (b ∷ bs) = suc (pieces_len hidden bs)
  pieces_len zero (b ∷ bs) =
      if nat_lt 0 (hides (b ∷ bs)) then suc (pieces_len (hides (b ∷ bs)) bs)
      else if ends (b ∷ bs) then 0
      else suc (pieces_len 0 bs)

-- the closing delimiter of this kind of literal is at the start
abbrev pub is_delimiter : StringKind → List ℕ → Bool
is_delimiter k bs =
    if k.indented then slice_index bs 0 == quote_of k.delimiter && slice_index bs 1 == quote_of k.delimiter && slice_index bs 2 == quote_of k.delimiter
    else slice_index bs 0 == quote_of k.delimiter

-- The number of bytes hidden by the first one. In double quotes a backslash hides the next byte, or in a format string all of a `{{{{`. In
-- format strings and in body text the first brace of a `{{{{` hides the others.
abbrev pub hides : RawText → List ℕ → ℕ
hides Comment bs = 0
hides Body bs = if is_interpolation_escape bs then 3 else 0
hides (Literal k format) bs =
    if escapes k.delimiter && slice_index bs 0 == byte.backslash then (if format && is_interpolation_escape (drop 1 bs) then 4 else 1)
    else if format && is_interpolation_escape bs then 3
    else 0

-- a comment ends at a line end; body text also ends at `{{`; the inside of a literal ends at its delimiter, and in a format string also at
-- `{{`
abbrev pub ends : RawText → List ℕ → Bool
ends Comment bs = is_line_end bs
ends Body bs = is_line_end bs || is_interpolation_start bs
ends (Literal k format) bs = is_delimiter k bs || format && is_interpolation_start bs

-- the number of bytes of raw text, up to the first end or the end of the text
abbrev pub raw_len : RawText → List ℕ → ℕ
raw_len s = pieces_len (hides s) (ends s) 0
