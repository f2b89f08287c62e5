-- Going along a text, from a place on.
use Rattle.std.specs.Prelude.{◌≡◌, ◌⊎◌, ◌<◌, ◌≤◌, ◌+◌, ◌-◌, ◌*◌, ◌==◌, ◌||◌, ◌&&◌, ℕ, Bool, true, false, List, [], ◌∷◌, take, nat_lt, if◌then◌else◌}
use Rattle.std.specs.Str.{IsCharBoundary}
use Rattle.justfile_lines.specs.declared.encoding.Encoding.{Encoding}
use Rattle.justfile_lines.specs.declared.position.Place.{Place}
use Rattle.justfile_lines.specs.declared.position.Position.{Position}
use Rattle.justfile_lines.specs.Positions.{byte_units}

abbrev pub after_byte : Encoding → Place → (byte : ℕ) → Place
after_byte encoding p c = record {
  offset = p.offset + 1;
  position = if c == 10 then (record { line = p.position.line + 1; column = 0 }) else (record { line = p.position.line; column = p.position.column + byte_units encoding c });
}

-- the place after a text that begins at a place
abbrev pub place_after : Encoding → Place → (text : List ℕ) → Place
place_after encoding p [] = p
place_after encoding p (c ∷ text) = place_after encoding (after_byte encoding p c) text

-- where any text begins
abbrev pub first_place : Place
first_place = record { offset = 0; position = record { line = 0; column = 0 } }

-- whether a place is in a later line than a position, or at a greater column of its line
abbrev pub is_past : Position → Place → Bool
is_past position p = nat_lt position.line p.position.line || (position.line == p.position.line && nat_lt position.column p.position.column)

-- The text begins at a place. So many bytes of it lead to the last bound of a character that isn't past the position.
pub record IsUpTo (encoding : Encoding) (from : Place) (text : List ℕ) (position : Position) (count : ℕ) : Type 0 where
  pub boundary : IsCharBoundary text count
  pub up_to : is_past position (place_after encoding from (take count text)) ≡ false
  pub last : (other : ℕ) → IsCharBoundary text other → count < other → is_past position (place_after encoding from (take other text)) ≡ true

-- A place is the one that a text begins at, or the beginning of a line that isn't after the one with this number.
abbrev pub IsBefore : (from : Place) (line : ℕ) → Place → Type 0
IsBefore from line p = (p ≡ from) ⊎ ((p.position.line ≤ line) × (p.position.column ≡ 0))

-- the length of the longest text
abbrev pub longest : ℕ
longest = 9223372036854775807

-- The numbers of a place are those of one in a text.
pub record IsInText (p : Place) : Type 0 where
  pub line : p.position.line ≤ p.offset
  pub column : p.position.column ≤ 2 * p.offset

-- the place after a text that begins at a place, by the place after it as a whole text, which is its size
abbrev pub after_size : Place → (size : Place) → Place
after_size p size = record {
  offset = p.offset + size.offset;
  position = record { line = p.position.line + size.position.line; column = if size.position.line == 0 then p.position.column + size.position.column else size.position.column };
}

-- the size of a text that leads from one place to another
abbrev pub size_between : (start end : Place) → Place
size_between start end = record {
  offset = end.offset - start.offset;
  position = record {
    line = end.position.line - start.position.line;
    column = if end.position.line == start.position.line then end.position.column - start.position.column else end.position.column;
  };
}
