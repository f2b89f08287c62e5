-- Where the lines of a text begin.
use Rattle.std.specs.Prelude.{◌≡◌, ℕ, ◌+◌, ◌-◌, ◌<◌, List, length, slice_index}
use Rattle.std.specs.Str.{IsCharBoundary}
use Rattle.justfile_lines.specs.Positions.{feeds, line_at}

-- A line with this number begins at the offset.
pub record IsStart (text : List ℕ) (line offset : ℕ) : Type 0 where
  pub boundary : IsCharBoundary text offset
  pub line_is : line_at text offset ≡ line
  pub begins : 0 < offset → slice_index text (offset - 1) ≡ 10

-- The offsets are those at which the lines of the text begin, from the first line to the last.
pub record AreStarts (text starts : List ℕ) : Type 0 where
  pub count : length starts ≡ feeds text + 1
  pub each : (line : ℕ) → line < length starts → IsStart text line (slice_index starts line)
