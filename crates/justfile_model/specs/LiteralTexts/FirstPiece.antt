-- Parses the first piece of a text, and cooks a text piece by piece. Texts are lists of characters.
use Rattle.std.specs.Prelude.{ℕ, zero, suc, ◌==◌, nat_lt, List, [], ◌∷◌, ◌++◌, length, take, drop, Option, Some, None, Result, Ok, Err, if◌then◌else◌, chars, encode_utf8_all, option_to_list}
use Rattle.std.specs.List.{prefix_len}
use Rattle.std.specs.Char.{is_ascii_hexdigit}
use lib.Utf8.{scalar}
use Rattle.std.specs.Str.Parse.{digits_value}
use Rattle.justfile_model.specs.LiteralTexts.Cook.{named}
use Rattle.justfile_model.specs.LiteralTexts.EscapeFault.{EscapeFault, InvalidEscapeSequence, UnicodeEscapeCharacter, UnicodeEscapeDelimiter, UnicodeEscapeEmpty, UnicodeEscapeLength, UnicodeEscapeRange, UnicodeEscapeUnterminated}
use Rattle.justfile_vocabulary.specs.ByteNames as byte

-- the character of a piece, if it has one, and the text after the piece; or the fault
abbrev pub PieceRead : Type 0
PieceRead = Result (Option ℕ × List ℕ) EscapeFault

-- the number of hexadecimal digits at the start, at most seven
abbrev pub hex_len : List ℕ → ℕ
hex_len cs = prefix_len is_ascii_hexdigit (take 7 cs)

-- the character with these digits, once the brace is closed
abbrev pub number : List ℕ → List ℕ → PieceRead
number hex rest =
    if length hex == 0 then Err UnicodeEscapeEmpty
    else if scalar (digits_value 16 hex) then Ok (Some (digits_value 16 hex), rest)
    else Err (UnicodeEscapeRange hex)

-- the rest of an escape after its digits
abbrev pub closing_brace : List ℕ → List ℕ → PieceRead
closing_brace hex [] = Err UnicodeEscapeUnterminated
closing_brace hex (c ∷ rest) = if c == byte.brace_right then number hex rest else Err (UnicodeEscapeCharacter c)

-- the rest of an escape after its opening brace
abbrev pub digits : List ℕ → PieceRead
digits cs =
    if nat_lt 6 (hex_len cs) then Err (UnicodeEscapeLength (take (hex_len cs) cs))
    else closing_brace (take (hex_len cs) cs) (drop (hex_len cs) cs)

-- the rest of an escape after its `u`
abbrev pub unicode : List ℕ → PieceRead
unicode [] = Err UnicodeEscapeUnterminated
unicode (c ∷ rest) = if c == byte.brace_left then digits rest else Err (UnicodeEscapeDelimiter c)

-- the rest of a line end whose carriage return follows a backslash
abbrev pub line_feed_piece : List ℕ → PieceRead
line_feed_piece [] = Err (InvalidEscapeSequence byte.carriage_return)
line_feed_piece (c ∷ rest) = if c == byte.line_feed then Ok (None, rest) else Err (InvalidEscapeSequence byte.carriage_return)

-- a backslash and a character, with the character that they name, if there is one
abbrev pub known : ℕ → Option ℕ → List ℕ → PieceRead
known c None rest = Err (InvalidEscapeSequence c)
known c (Some value) rest = Ok (Some value, rest)

-- the rest of an escape after its backslash
abbrev pub escape_piece : List ℕ → PieceRead
escape_piece [] = Err UnicodeEscapeUnterminated
escape_piece (c ∷ rest) =
    if c == byte.letter_u then unicode rest
    else if c == byte.carriage_return then line_feed_piece rest
    else if c == byte.line_feed then Ok (None, rest)
    else known c (named c) rest

-- the piece that begins with this character
abbrev pub first_escaped_piece : ℕ → List ℕ → PieceRead
first_escaped_piece c rest = if c == byte.backslash then escape_piece rest else Ok (Some c, rest)

abbrev pub Cooked : Type 0
Cooked = Result (List ℕ) EscapeFault

-- cooked text with the value of a piece before it
abbrev pub with_value : Option ℕ → Cooked → Cooked
with_value value (Ok cooked) = Ok (option_to_list value ++ cooked)
with_value value (Err fault) = Err fault

-- the cooked text of a first piece and the text after it
abbrev pub go_on : (List ℕ → Cooked) → PieceRead → Cooked
go_on more (Ok x) = with_value x.0 (more x.1)
go_on more (Err fault) = Err fault

-- cooks at most this many pieces
unfoldable pub cook_within : ℕ → List ℕ → Cooked
cook_within most [] = Ok []
cook_within zero (c ∷ cs) = Ok []
cook_within (suc most) (c ∷ cs) = go_on (cook_within most) (first_escaped_piece c cs)

-- the characters of the cooked text, or the first fault
abbrev pub cook : List ℕ → Cooked
cook cs = cook_within (length cs) cs

abbrev pub as_text : Cooked → Cooked
as_text (Ok cooked) = Ok (encode_utf8_all cooked)
as_text (Err fault) = Err fault

-- the cooked text of a text, or the first fault
abbrev pub cooked_from_left : List ℕ → Cooked
cooked_from_left text = as_text (cook (chars text))
