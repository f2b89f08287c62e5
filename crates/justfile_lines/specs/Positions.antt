-- Where an offset is in a text: its line and its column.
use Rattle.std.specs.Prelude.{◌≡◌, ◌==◌, ℕ, ◌<◌, ◌≤◌, length, List, [], ◌∷◌, take, nat_lt, count_by, if◌then◌else◌}
use Rattle.std.specs.List.{sum_by}
use Rattle.std.specs.Str.{IsCharBoundary}
use Rattle.justfile_lines.specs.declared.encoding.Encoding.{Encoding}
use Rattle.justfile_lines.specs.declared.encoding.Encoding.TheVariants.{Utf8, Utf16}
use Rattle.justfile_lines.specs.declared.position.Place.{Place}
use Rattle.justfile_lines.specs.declared.position.Position.{Position}

-- how many line feeds a text has
abbrev pub feeds : List ℕ → ℕ
feeds text = count_by (λ c. c == 10) text

-- what a text has after its last line feed: all of it, if it has none
abbrev pub last_line : List ℕ → List ℕ
last_line [] = []
last_line (c ∷ text) = if nat_lt 0 (feeds (c ∷ text)) then last_line text else c ∷ text

-- how many units of UTF-16 a byte counts for: a character counts at its first byte, one of four bytes for two
abbrev pub utf16_units : ℕ → ℕ
utf16_units byte = if nat_lt byte 128 then 1 else if nat_lt byte 192 then 0 else if nat_lt byte 240 then 1 else 2

abbrev pub byte_units : Encoding → ℕ → ℕ
byte_units Utf8 byte = 1
byte_units Utf16 byte = utf16_units byte

-- how many units a text has
abbrev pub width : Encoding → List ℕ → ℕ
width encoding text = sum_by (byte_units encoding) text

-- the line of an offset: the number of line feeds before it
abbrev pub line_at : (text : List ℕ) (offset : ℕ) → ℕ
line_at text offset = feeds (take offset text)

-- the column of an offset: the width of what is between the last line feed before it and the offset
abbrev pub column_at : Encoding → (text : List ℕ) (offset : ℕ) → ℕ
column_at encoding text offset = width encoding (last_line (take offset text))

-- In that line the offset is the last bound of a character whose column isn't greater.
pub record IsLastUpTo (encoding : Encoding) (text : List ℕ) (line column offset : ℕ) : Type 0 where
  pub line_is : line_at text offset ≡ line
  pub column_is : column_at encoding text offset ≤ column
  pub last : (other : ℕ) → IsCharBoundary text other → line_at text other ≡ line → column_at encoding text other ≤ column → other ≤ offset

-- The offset is that of the position. After the end of its line it is that end, before the line feed; in a character, where that begins; after the
-- last line, the end of the text.
pub record IsOffset (encoding : Encoding) (text : List ℕ) (position : Position) (offset : ℕ) : Type 0 where
  pub boundary : IsCharBoundary text offset
  pub in_line : position.line ≤ feeds text → IsLastUpTo encoding text position.line position.column offset
  pub after : feeds text < position.line → offset ≡ length text

-- The place is that of an offset in the text.
pub record IsPlace (encoding : Encoding) (text : List ℕ) (place : Place) : Type 0 where
  pub within : place.offset ≤ length text
  pub line_is : place.position.line ≡ line_at text place.offset
  pub column_is : place.position.column ≡ column_at encoding text place.offset
