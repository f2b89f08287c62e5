-- Lines and columns, both from 0; columns are in bytes.
use Rattle.std.specs.Prelude.{◌≡◌, ℕ, ◌-◌, ◌≤◌, Bool, not, ◌==◌, List, length, take, reverse}
use Rattle.std.specs.List.{prefix_len, count_by}
use Rattle.justfile_vocabulary.specs.ByteNames as byte

-- a line feed
abbrev pub is_line_feed : ℕ → Bool
is_line_feed b = b == byte.line_feed

-- the text before an offset, except the last byte of the whole text: a line feed there doesn't begin a line
abbrev pub text_before : List ℕ → ℕ → List ℕ
text_before text offset = take offset (take (length text - 1) text)

-- the end of the last line feed, or 0
unfoldable pub last_line_start : List ℕ → ℕ
last_line_start bs = length bs - prefix_len (λ b. not (is_line_feed b)) (reverse bs)

-- the number of line feeds before the offset
unfoldable pub line_of_offset : List ℕ → ℕ → ℕ
line_of_offset text offset = count_by is_line_feed (text_before text offset)

-- the number of bytes between the start of the line and the offset
unfoldable pub column_at : List ℕ → ℕ → ℕ
column_at text offset = offset - last_line_start (text_before text offset)

-- the line and the column of an offset, neither greater than the offset
pub record IsPlace (text : List ℕ) (offset line column : ℕ) : Type 0 where
  pub line_is : line ≡ line_of_offset text offset
  pub column_is : column ≡ column_at text offset
  pub line_within : line ≤ offset
  pub column_within : column ≤ offset
