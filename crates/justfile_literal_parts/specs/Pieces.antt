-- The results of the code that parses pieces, as values of the definitions.
use Rattle.std.specs.Prelude.{ℕ, List, Option, Result, Ok, Err, chars}
use denote.Ref.{Bor}
use Rattle.justfile_literal_parts.specs.declared.escape_fault.EscapeFault.{EscapeFault as CodeFault}
use Rattle.justfile_literal_parts.specs.declared.escape_fault.EscapeFault.TheVariants as faults
use Rattle.justfile_model.specs.LiteralTexts.EscapeFault.{EscapeFault, InvalidEscapeSequence, UnicodeEscapeCharacter, UnicodeEscapeDelimiter, UnicodeEscapeEmpty, UnicodeEscapeLength, UnicodeEscapeRange, UnicodeEscapeUnterminated}
use Rattle.justfile_model.specs.LiteralTexts.FirstPiece.{PieceRead}

abbrev pub piece_fault : CodeFault → EscapeFault
piece_fault (faults.InvalidEscapeSequence character) = InvalidEscapeSequence character
piece_fault (faults.UnicodeEscapeCharacter character) = UnicodeEscapeCharacter character
piece_fault (faults.UnicodeEscapeDelimiter character) = UnicodeEscapeDelimiter character
piece_fault faults.UnicodeEscapeEmpty = UnicodeEscapeEmpty
piece_fault (faults.UnicodeEscapeLength hex) = UnicodeEscapeLength hex.now
piece_fault (faults.UnicodeEscapeRange hex) = UnicodeEscapeRange hex.now
piece_fault faults.UnicodeEscapeUnterminated = UnicodeEscapeUnterminated

abbrev pub piece_answer : Result (Option ℕ × Bor (List ℕ)) CodeFault → PieceRead
piece_answer (Ok x) = Ok (x.0, chars x.1.now)
piece_answer (Err fault) = Err (piece_fault fault)
