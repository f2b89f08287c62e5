-- Why escapes in a text are invalid.
use Rattle.std.specs.Prelude.{ℕ, List, Option, Some, None, string_bytes}
use Rattle.justfile_token.specs.declared.compile_error_kind.CompileErrorKind.{CompileErrorKind}
use Rattle.justfile_token.specs.declared.compile_error_kind.CompileErrorKind.TheVariants as kinds

-- the faults of escapes, with the data for their messages; a character is its code point
pub data EscapeFault : Type 0 where
  InvalidEscapeSequence : (character : ℕ) → EscapeFault
  UnicodeEscapeCharacter : (character : ℕ) → EscapeFault
  UnicodeEscapeDelimiter : (character : ℕ) → EscapeFault
  UnicodeEscapeEmpty : EscapeFault
  UnicodeEscapeLength : (hex : List ℕ) → EscapeFault
  UnicodeEscapeRange : (hex : List ℕ) → EscapeFault
  UnicodeEscapeUnterminated : EscapeFault

-- the fault of an error kind, if it is a fault of escapes
abbrev pub escape_fault_of : CompileErrorKind → Option EscapeFault
escape_fault_of (kinds.InvalidEscapeSequence character) = Some (InvalidEscapeSequence character)
escape_fault_of (kinds.UnicodeEscapeCharacter character) = Some (UnicodeEscapeCharacter character)
escape_fault_of (kinds.UnicodeEscapeDelimiter character) = Some (UnicodeEscapeDelimiter character)
escape_fault_of kinds.UnicodeEscapeEmpty = Some UnicodeEscapeEmpty
escape_fault_of (kinds.UnicodeEscapeLength hex) = Some (UnicodeEscapeLength (string_bytes hex))
escape_fault_of (kinds.UnicodeEscapeRange hex) = Some (UnicodeEscapeRange (string_bytes hex))
escape_fault_of kinds.UnicodeEscapeUnterminated = Some UnicodeEscapeUnterminated
escape_fault_of _ = None
