-- The state of the lexer.
use Rattle.std.specs.Prelude.{◌≡◌, ℕ, ◌+◌, ◌<◌, ◌==◌, Bool, true, false, not, slice_index, List, [], ◌∷◌, ◌++◌, cond, drop, length, Ok, IfSome}
use Rattle.std.specs.Str.{IsCharBoundary}
use Rattle.justfile_vocabulary.specs.declared.token_kind.TokenKind.{TokenKind}
use Rattle.justfile_vocabulary.specs.declared.token_kind.TokenKind.TheVariants.{Backtick, ByteOrderMark, Eol, FormatStringContinue, FormatStringEnd, FormatStringStart, InterpolationStart, StringToken, Whitespace}
use Rattle.justfile_lex.specs.declared.lexer.Lexer.{Lexer}
use Rattle.justfile_token.specs.Slice.{slice_of}
use Rattle.justfile_vocabulary.specs.ByteNames as byte
use Rattle.justfile_model.specs.Lexing.Bytes.{is_blank}
use Rattle.justfile_model.specs.Lexing.Places.{IsPlace}
use Rattle.justfile_model.specs.Lexing.Tok.{Tok, tok_of}
use Rattle.justfile_model.specs.Lexing.Modes.{mode, mode_after}
use Rattle.justfile_model.specs.Lexing.LexResult.{IsFrom}
use Rattle.justfile_scan.specs.Modes.{mode_of}
use Rattle.justfile_model.specs.Lexing.Lexed.{end_of, Begins, StandsAt}
use Rattle.justfile_model.specs.Lexing.Next.{next}
use Rattle.justfile_model.specs.Lexing.SignificantTokens.{is_whitespace}
use Rattle.justfile_token.specs.declared.token.Token.{Token}

-- tokens of the kind are searched for line feeds: the other kinds have none
abbrev pub is_searched : TokenKind → Bool
is_searched Backtick = true
is_searched ByteOrderMark = true
is_searched Eol = true
is_searched FormatStringContinue = true
is_searched FormatStringEnd = true
is_searched FormatStringStart = true
is_searched InterpolationStart = true
is_searched StringToken = true
is_searched Whitespace = true
is_searched _ = false

-- Tokens of the kind that begin with this byte have no line feed: they aren't searched, or they are blanks.
abbrev pub is_on_line : TokenKind → (first : ℕ) → Bool
is_on_line Whitespace first = is_blank first
is_on_line kind first = not (is_searched kind)

-- no line feed is among the first bytes
abbrev pub HasNoFeed : List ℕ → (count : ℕ) → Type 0
HasNoFeed bs count = (i : ℕ) → i < count → (slice_index bs i == byte.line_feed) ≡ false

-- The offset is between two characters, and the place is its line and column.
pub record IsPlaced (l : Lexer) : Type 0 where
  pub cut : IsCharBoundary l.src.now l.offset
  pub place : IsPlace l.src.now l.offset l.place.line l.place.column

-- The lexer is at the end of the earlier tokens, last one first. Its mode agrees with them, and they are the first tokens of the text.
pub record IsLexing (l : Lexer) (earlier : List Tok) : Type 0 where
  pub placed : IsPlaced l
  pub offset_is : l.offset ≡ end_of earlier
  pub mode_is : mode_of l.mode ≡ mode earlier
  pub begins : Begins l.src.now earlier
  pub interpolation_is : IfSome l.mode.interpolation (IsFrom l.path.now l.src.now)

-- the same for some earlier tokens
pub record IsReading (l : Lexer) : Type 0 where
  pub earlier : List Tok
  pub lexing : IsLexing l earlier

-- the token of this kind and length at the lexer's position
pub record IsLexerToken (l : Lexer) (kind : TokenKind) (len : ℕ) (t : Tok) : Type 0 where
  pub kind_is : t.kind ≡ kind
  pub offset_is : t.offset ≡ l.offset
  pub lexeme_is : t.lexeme ≡ slice_of l.src.now l.offset len
  pub line_is : t.line ≡ l.place.line
  pub column_is : t.column ≡ l.place.column

-- the lexer has moved past the next token
pub record Takes (old new : Lexer) (token : Token) : Type 0 where
  pub found : next (mode_of old.mode) (drop old.offset old.src.now) ≡ Ok (token.kind, token.length)
  pub stands : StandsAt old.src.now old.offset (tok_of token)
  pub length_is : length (tok_of token).lexeme ≡ token.length
  pub source : IsFrom old.path.now old.src.now token
  pub mode_is : mode_of new.mode ≡ mode_after token.kind (tok_of token) (mode_of old.mode)
  pub interpolation_is : IfSome new.mode.interpolation (IsFrom old.path.now old.src.now)
  pub path_is : new.path ≡ old.path
  pub src_is : new.src ≡ old.src
  pub offset_is : new.offset ≡ old.offset + token.length
  pub placed : IsPlaced new

-- The lexer has moved past the next token, which has this kind and length. A table has it now with the mark, unless it is whitespace.
pub record TakesInto (old new : Lexer) (kind : TokenKind) (len : ℕ) (mark after : Bool) (so_far table : List (Token × Bool)) : Type 0 where
  pub token : Token
  pub takes : Takes old new token
  pub kind_is : token.kind ≡ kind
  pub length_is : token.length ≡ len
  pub after_is : after ≡ not (is_whitespace token.kind)
  pub table_is : table ≡ so_far ++ cond (is_whitespace token.kind) [] ((token, mark) ∷ [])
