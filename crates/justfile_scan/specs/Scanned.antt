-- The results of scanning, as values of the definitions.
use Rattle.std.specs.Prelude.{ℕ, Bool, true, false, if◌then◌else◌, [], ◌∷◌, Option, None, Some}
use Rattle.justfile_vocabulary.specs.declared.token_kind.TokenKind.{TokenKind}
use Rattle.justfile_vocabulary.specs.declared.token_kind.TokenKind.TheVariants.{Unspecified}
use Rattle.justfile_scan.specs.declared.scan_error.Scanned.{Scanned}
use Rattle.justfile_scan.specs.declared.scan_error.ScanError.{ScanError as ScanError}
use Rattle.justfile_scan.specs.declared.lexical_fault.LexicalFault.{LexicalFault as CodeFault}
use Rattle.justfile_scan.specs.declared.lexical_fault.LexicalFault.TheVariants as faults
use Rattle.justfile_model.specs.Lexing.LexicalFault.{LexicalFault, EscapeEndOfFile, InconsistentLeadingWhitespace, InvalidEscapeSequence, MismatchedClosingDelimiter, MixedLeadingWhitespace, UnexpectedCharacter, UnexpectedClosingDelimiter, UnexpectedEndOfToken, UnknownStartOfToken, UnpairedCarriageReturn, UnterminatedBacktick, UnterminatedString, LexicalError, Here}

abbrev pub scan_fault : CodeFault → LexicalFault
scan_fault faults.EscapeEndOfFile = EscapeEndOfFile
scan_fault (faults.InconsistentLeadingWhitespace expected found) = InconsistentLeadingWhitespace expected.now found.now
scan_fault (faults.InvalidEscapeSequence character) = InvalidEscapeSequence character
scan_fault (faults.MismatchedClosingDelimiter close line opener) = MismatchedClosingDelimiter close line opener
scan_fault (faults.MixedLeadingWhitespace whitespace) = MixedLeadingWhitespace whitespace.now
scan_fault (faults.UnexpectedCharacter expected) = UnexpectedCharacter (expected ∷ [])
scan_fault (faults.UnexpectedClosingDelimiter close) = UnexpectedClosingDelimiter close
scan_fault (faults.UnexpectedEndOfToken expected) = UnexpectedEndOfToken (expected ∷ [])
scan_fault (faults.UnknownStartOfToken start) = UnknownStartOfToken start
scan_fault faults.UnpairedCarriageReturn = UnpairedCarriageReturn
scan_fault faults.UnterminatedBacktick = UnterminatedBacktick
scan_fault faults.UnterminatedString = UnterminatedString

abbrev pub lexical_error_of : ScanError → LexicalError
lexical_error_of r = Here (scan_fault r.fault) r.skip r.length

-- a kind that tokens have
abbrev pub names_token : TokenKind → Bool
names_token Unspecified = false
names_token _ = true

-- the kind and the length of the token that a scan found
abbrev pub found_of : Scanned → Option (TokenKind × ℕ)
found_of s = if names_token s.kind then Some (s.kind, s.length) else None
