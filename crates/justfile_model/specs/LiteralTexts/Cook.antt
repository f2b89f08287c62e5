-- The values of texts with escapes, and why texts are invalid. The characters of a piece are code points, texts are bytes.
use Rattle.std.specs.Prelude.{◌≡◌, ◌≢◌, ℕ, ◌<◌, ◌≤◌, ◌==◌, true, false, List, [], ◌∷◌, ◌++◌, length, slice_index, flat_map, codes, encode_utf8_all, Option, Some, None, if◌then◌else◌}
use Rattle.std.specs.List.{AllByRecursion}
use Rattle.std.specs.Char.{IsScalar, is_ascii_hexdigit}
use Rattle.std.specs.Str.Parse.{digits_value}
use Rattle.justfile_token.specs.declared.compile_error.CompileError.{CompileError}
use Rattle.justfile_token.specs.declared.fault.Fault.{Fault}
use Rattle.justfile_token.specs.declared.fault.Fault.TheVariants.{Compile, Memory, Numbers}
use Rattle.justfile_token.specs.declared.token.Token.{Token}
use Rattle.justfile_model.specs.LiteralTexts.EscapeFault.{EscapeFault, InvalidEscapeSequence, UnicodeEscapeCharacter, UnicodeEscapeDelimiter, UnicodeEscapeEmpty, UnicodeEscapeLength, UnicodeEscapeRange, UnicodeEscapeUnterminated, escape_fault_of}
use Rattle.justfile_vocabulary.specs.ByteNames as byte

-- the character that this one stands for after a backslash: a line feed for `n`, a carriage return for `r`, a tab for `t`, and `\` and `"`
-- for themselves
abbrev pub named : ℕ → Option ℕ
named c =
    if c == byte.letter_n then Some byte.line_feed
    else if c == byte.letter_r then Some byte.carriage_return
    else if c == byte.letter_t then Some byte.tab
    else if c == byte.backslash then Some byte.backslash
    else if c == byte.double_quote then Some byte.double_quote
    else None

-- a piece of a text with escapes
pub data Piece : Type 0 where
  -- a character other than a backslash
  Plain : (character : ℕ) → Piece
  -- a backslash and a character that stands for another one
  Named : (character value : ℕ) → Piece
  -- a backslash and a line feed, which stand for nothing
  LineFeed : Piece
  -- a backslash, a carriage return and a line feed, which stand for nothing
  CarriageReturnLineFeed : Piece
  -- a backslash, `u`, and a code point in braces
  Unicode : (hex : List ℕ) → Piece

-- the characters of the piece in the text
abbrev pub raw_of : Piece → List ℕ
raw_of (Plain character) = character ∷ []
raw_of (Named character value) = byte.backslash ∷ character ∷ []
raw_of LineFeed = codes "\\\n"
raw_of CarriageReturnLineFeed = codes "\\\r\n"
raw_of (Unicode hex) = codes "\\u{" ++ hex ++ codes "}"

-- the characters that the piece stands for
abbrev pub value_of : Piece → List ℕ
value_of (Plain character) = character ∷ []
value_of (Named character value) = value ∷ []
value_of LineFeed = []
value_of CarriageReturnLineFeed = []
value_of (Unicode hex) = digits_value 16 hex ∷ []

-- All are hexadecimal digits, in upper or lower case.
abbrev pub AreHex : List ℕ → Type 0
AreHex = AllByRecursion (λ c. is_ascii_hexdigit c ≡ true)

abbrev pub IsPiece : Piece → Type 0
IsPiece (Plain character) = character ≢ byte.backslash
IsPiece (Named character value) = named character ≡ Some value
IsPiece LineFeed = Unit {0}
IsPiece CarriageReturnLineFeed = Unit {0}
IsPiece (Unicode hex) = AreHex hex × (0 < length hex) × (length hex ≤ 6) × IsScalar (digits_value 16 hex)

-- an invalid text at a position where a piece should begin
pub data BadPiece : Type 0 where
  -- a backslash and a character that doesn't begin an escape
  Unknown : (character : ℕ) → BadPiece
  -- a backslash and `u`, without a brace after them
  Unopened : (character : ℕ) → BadPiece
  -- braces without digits
  Empty : BadPiece
  -- a character in the braces that is neither a digit nor the closing brace
  NoDigit : (hex : List ℕ) (character : ℕ) → BadPiece
  -- more than six digits, of which the first seven are listed
  TooLong : (hex : List ℕ) → BadPiece
  -- a number that isn't the code point of a character
  OutOfRange : (hex : List ℕ) → BadPiece
  -- the end of the text after the backslash, after `u`, or after the brace and some digits
  EndsAtBackslash : BadPiece
  EndsAtU : BadPiece
  EndsInBraces : (hex : List ℕ) → BadPiece

-- the characters of a bad piece, up to and including the invalid one
abbrev pub bad_text : BadPiece → List ℕ
bad_text (Unknown character) = byte.backslash ∷ character ∷ []
bad_text (Unopened character) = codes "\\u" ++ character ∷ []
bad_text Empty = codes "\\u{}"
bad_text (NoDigit hex character) = codes "\\u{" ++ hex ++ character ∷ []
bad_text (TooLong hex) = codes "\\u{" ++ hex
bad_text (OutOfRange hex) = codes "\\u{" ++ hex ++ codes "}"
bad_text EndsAtBackslash = codes "\\"
bad_text EndsAtU = codes "\\u"
bad_text (EndsInBraces hex) = codes "\\u{" ++ hex

-- The piece is bad if this text follows it.
abbrev pub IsBad : BadPiece → List ℕ → Type 0
IsBad (Unknown character) following = (named character ≡ None) × (character ≢ byte.line_feed) × (character ≢ byte.letter_u) × (character ≡ byte.carriage_return → slice_index following 0 ≢ byte.line_feed)
IsBad (Unopened character) following = character ≢ byte.brace_left
IsBad Empty following = Unit {0}
IsBad (NoDigit hex character) following = AreHex hex × (length hex ≤ 6) × (is_ascii_hexdigit character ≡ false) × (character ≢ byte.brace_right)
IsBad (TooLong hex) following = AreHex hex × (length hex ≡ 7)
IsBad (OutOfRange hex) following = AreHex hex × (0 < length hex) × (length hex ≤ 6) × (IsScalar (digits_value 16 hex) → ⊥)
IsBad EndsAtBackslash following = following ≡ []
IsBad EndsAtU following = following ≡ []
IsBad (EndsInBraces hex) following = AreHex hex × (length hex ≤ 6) × (following ≡ [])

abbrev pub fault_of : BadPiece → EscapeFault
fault_of (Unknown character) = InvalidEscapeSequence character
fault_of (Unopened character) = UnicodeEscapeDelimiter character
fault_of Empty = UnicodeEscapeEmpty
fault_of (NoDigit hex character) = UnicodeEscapeCharacter character
fault_of (TooLong hex) = UnicodeEscapeLength hex
fault_of (OutOfRange hex) = UnicodeEscapeRange hex
fault_of EndsAtBackslash = UnicodeEscapeUnterminated
fault_of EndsAtU = UnicodeEscapeUnterminated
fault_of (EndsInBraces hex) = UnicodeEscapeUnterminated

abbrev pub AreEscapedPieces : List Piece → Type 0
AreEscapedPieces = AllByRecursion IsPiece

-- The text consists of pieces, and their values together are the cooked text.
pub record Cooks (text cooked : List ℕ) : Type 0 where
  pub pieces : List Piece
  pub good : AreEscapedPieces pieces
  pub text_is : encode_utf8_all (flat_map raw_of pieces) ≡ text
  pub cooked_is : encode_utf8_all (flat_map value_of pieces) ≡ cooked

-- After some pieces the text has a bad one, with this fault.
pub record Refused (text : List ℕ) (fault : EscapeFault) : Type 0 where
  pub pieces : List Piece
  pub bad : BadPiece
  pub following : List ℕ
  pub good : AreEscapedPieces pieces
  pub is_bad : IsBad bad following
  pub text_is : encode_utf8_all (flat_map raw_of pieces ++ (bad_text bad ++ following)) ≡ text
  pub fault_is : fault_of bad ≡ fault

-- The error is the text's fault, at the token.
pub record IsCookError (text : List ℕ) (token : Token) (error : CompileError) : Type 0 where
  pub fault : EscapeFault
  pub refused : Refused text fault
  pub kind_is : escape_fault_of error.kind ≡ Some fault
  pub token_is : error.token ≡ token

-- Running out of memory tells nothing about the text.
abbrev pub IsCookFault : List ℕ → Token → Fault → Type 0
IsCookFault text token (Compile error) = IsCookError text token error
IsCookFault text token Memory = Unit {0}
IsCookFault text token Numbers = ⊥
