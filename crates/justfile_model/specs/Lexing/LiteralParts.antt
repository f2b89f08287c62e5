-- A literal, or a part of a format string, as a text: an opener, an inside, and an end.
use Rattle.std.specs.Prelude.{◌≡◌, ℕ, Bool, List, ◌++◌, length, codes, Ok, Err}
use Rattle.justfile_token.specs.declared.string_kind.StringKind.{StringKind}
use Rattle.justfile_vocabulary.specs.declared.token_kind.TokenKind.{TokenKind}
use Rattle.justfile_token.specs.StringKind.{delimiter_text}
use Rattle.justfile_model.specs.declared.raw_text.RawText.TheVariants.{Literal}
use Rattle.justfile_model.specs.Lexing.LexicalFault.{Here}
use Rattle.justfile_model.specs.Lexing.Next.{NextToken, unterminated}
use Rattle.justfile_model.specs.Lexing.Pieces.{HasNoEnd, IsInside}

-- The token found for an opener and the text after it. A part that ends with the delimiter has the kind `ended`. One that ends with `{{`,
-- which is an end in format strings only, has the kind `continued`.
pub data IsPart (k : StringKind) (format : Bool) (continued ended : TokenKind) (opener text : List ℕ) : NextToken → Type 0 where
  EndsWithDelimiter : (inside follows : List ℕ) → text ≡ inside ++ (delimiter_text k ++ follows)
      → IsInside (Literal k format) inside (delimiter_text k ++ follows)
      → IsPart k format continued ended opener text (Ok (ended, length (opener ++ (inside ++ delimiter_text k))))
  EndsWithBraces : (inside follows : List ℕ) → text ≡ inside ++ (codes "{{" ++ follows)
      → IsInside (Literal k format) inside (codes "{{" ++ follows)
      → IsPart k format continued ended opener text (Ok (continued, length (opener ++ (inside ++ codes "{{"))))
  Unterminated : HasNoEnd (Literal k format) text
      → IsPart k format continued ended opener text (Err (Here (unterminated k.delimiter) 0 (length opener)))
