-- Lines of a text as messages show them, and the screen columns of their characters. Positions are counted in bytes.
use Rattle.std.specs.Prelude.{◌≡◌, ℕ, ◌+◌, Bool, false, ◌&&◌, ◌==◌, nat_lt, nat_le, List, [], ◌∷◌, ◌++◌, length, chars, codes, encode_utf8, filter, flat_map, slice_get, sum_by, unwrap_or, if◌then◌else◌}
use Rattle.std.specs.Fmt.{HasWritten, IsPlainFormatter}
use Rattle.std.specs.Str.Lines.{lines}
use Rattle.std.specs.declared.fmt.Formatter.{Formatter}
use Rattle.unicode_width.specs.Width.{char_width}
use Rattle.justfile_vocabulary.specs.ByteNames as byte

-- the line with this number, from 0, without its line end; empty if the text has no such line
abbrev pub line_at : List ℕ → ℕ → List ℕ
line_at text number = unwrap_or (slice_get (lines text) number) []

abbrev pub is_tab : ℕ → Bool
is_tab c = c == byte.tab

-- a character as messages show it: a tab shows as four spaces
abbrev pub shown_character : ℕ → List ℕ
shown_character c = if c == byte.tab then codes "    " else encode_utf8 c

-- a line as messages show it
abbrev pub shown_line : List ℕ → List ℕ
shown_line line = flat_map shown_character (chars line)

-- A text is written, and a line as it is shown is this text and then the rest of the line as it is shown.
abbrev pub WritesFront : {W : Type 0} → (W → List ℕ → W → Type 0) → Formatter W → List ℕ → List ℕ → Formatter W → Type 0
WritesFront took f line rest g =
    IsPlainFormatter f → (text : List ℕ) × HasWritten took f text g × (text ++ shown_line rest ≡ shown_line line)

-- the number of columns that a character takes on the screen; 0 for a character without a width
abbrev pub width_of : ℕ → ℕ
width_of c = if c == byte.tab then 4 else unwrap_or (char_width false c) 0

-- the characters, each with its byte position, if the first one is at the given position
abbrev pub placed_from : ℕ → List ℕ → List (ℕ × ℕ)
placed_from place [] = []
placed_from place (c ∷ cs) = (place, c) ∷ placed_from (place + length (encode_utf8 c)) cs

-- The position is one of the `count` positions from `start` on.
abbrev pub is_among : ℕ → ℕ → ℕ → Bool
is_among start count place = nat_le start place && nat_lt place (start + count)

-- the number of columns of those characters whose positions are among the `count` ones from `start` on
abbrev pub width_among : ℕ → ℕ → List (ℕ × ℕ) → ℕ
width_among start count characters = sum_by (λ p. width_of p.1) (filter (λ p. is_among start count p.0) characters)

-- the same for the characters of a line
abbrev pub width_in : List ℕ → ℕ → ℕ → ℕ
width_in line start count = width_among start count (placed_from 0 (chars line))
