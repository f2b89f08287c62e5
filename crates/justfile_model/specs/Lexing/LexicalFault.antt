-- Why a text has no next token.
use Rattle.std.specs.Prelude.{ℕ, List}
use Rattle.justfile_token.specs.declared.delimiter.Delimiter.{Delimiter}
use Rattle.justfile_token.specs.declared.compile_error_kind.CompileErrorKind.{CompileErrorKind}
use Rattle.justfile_token.specs.declared.compile_error_kind.CompileErrorKind.TheVariants as kinds
use Rattle.justfile_model.specs.Lexing.Tok.{Tok}

-- the faults of lexing, with the data for their messages; a character is its code point
pub data LexicalFault : Type 0 where
  EscapeEndOfFile : LexicalFault
  InconsistentLeadingWhitespace : (expected found : List ℕ) → LexicalFault
  InvalidEscapeSequence : (character : ℕ) → LexicalFault
  MismatchedClosingDelimiter : (close : Delimiter) (line : ℕ) (opener : Delimiter) → LexicalFault
  MixedLeadingWhitespace : (whitespace : List ℕ) → LexicalFault
  UnexpectedCharacter : (expected : List ℕ) → LexicalFault
  UnexpectedClosingDelimiter : (close : Delimiter) → LexicalFault
  UnexpectedEndOfToken : (expected : List ℕ) → LexicalFault
  UnknownStartOfToken : (start : ℕ) → LexicalFault
  UnpairedCarriageReturn : LexicalFault
  UnterminatedBacktick : LexicalFault
  UnterminatedInterpolation : LexicalFault
  UnterminatedString : LexicalFault
  -- a fault that isn't lexical, which no text has
  NotLexical : LexicalFault

-- the fault of an error kind
abbrev pub lexical_fault_of : CompileErrorKind → LexicalFault
lexical_fault_of kinds.EscapeEndOfFile = EscapeEndOfFile
lexical_fault_of (kinds.InconsistentLeadingWhitespace expected found) = InconsistentLeadingWhitespace expected.now found.now
lexical_fault_of (kinds.InvalidEscapeSequence character) = InvalidEscapeSequence character
lexical_fault_of (kinds.MismatchedClosingDelimiter close line opener) = MismatchedClosingDelimiter close line opener
lexical_fault_of (kinds.MixedLeadingWhitespace whitespace) = MixedLeadingWhitespace whitespace.now
lexical_fault_of (kinds.UnexpectedCharacter expected) = UnexpectedCharacter expected.items
lexical_fault_of (kinds.UnexpectedClosingDelimiter close) = UnexpectedClosingDelimiter close
lexical_fault_of (kinds.UnexpectedEndOfToken expected) = UnexpectedEndOfToken expected.items
lexical_fault_of (kinds.UnknownStartOfToken start) = UnknownStartOfToken start
lexical_fault_of kinds.UnpairedCarriageReturn = UnpairedCarriageReturn
lexical_fault_of kinds.UnterminatedBacktick = UnterminatedBacktick
lexical_fault_of kinds.UnterminatedInterpolation = UnterminatedInterpolation
lexical_fault_of kinds.UnterminatedString = UnterminatedString
lexical_fault_of _ = NotLexical

-- a fault and its position
pub data LexicalError : Type 0 where
  -- a fault in the `span` bytes that begin `skip` bytes after the end of the earlier tokens
  Here : (fault : LexicalFault) (skip span : ℕ) → LexicalError
  -- the interpolation that begins with this token isn't terminated
  Unclosed : Tok → LexicalError
