-- Errors of a token that lacks its other half.
use Rattle.std.specs.Prelude.{ℕ, ◌==◌, List, [], ◌∷◌, length, drop, if◌then◌else◌, Option, Some, None}
use Rattle.std.specs.Char.{len_utf8}
use Rattle.justfile_token.specs.declared.delimiter.Delimiter.{Delimiter}
use Rattle.justfile_model.specs.declared.open_delimiter.OpenDelimiter.{OpenDelimiter}
use Rattle.justfile_model.specs.Lexing.Bytes.{first_char}
use Rattle.justfile_model.specs.Lexing.LexicalFault.{LexicalError, Here, MismatchedClosingDelimiter, UnexpectedCharacter, UnexpectedClosingDelimiter, UnexpectedEndOfToken}

-- a closing delimiter that doesn't match the innermost open one
abbrev pub unmatched : Option OpenDelimiter → (close : Delimiter) → LexicalError
unmatched None close = Here (UnexpectedClosingDelimiter close) 0 0
unmatched (Some o) close = Here (MismatchedClosingDelimiter close o.line o.delimiter) 0 0

-- a byte that has to be doubled, and isn't
abbrev pub undoubled : ℕ → List ℕ → LexicalError
undoubled b rest =
    if length (drop 1 rest) == 0 then Here (UnexpectedEndOfToken (b ∷ [])) 1 0
    else Here (UnexpectedCharacter (b ∷ [])) 1 (len_utf8 (first_char (drop 1 rest)))
