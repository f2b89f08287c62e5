-- The state of the lexer after the earlier tokens, which determines the next one. Lists of earlier tokens have the last one first.
use Rattle.std.specs.Prelude.{ℕ, ◌+◌, ◌-◌, Bool, true, false, not, ◌||◌, ◌==◌, List, [], ◌∷◌, length, slice_index, Option, Some, None, is_some}
use Rattle.std.specs.List.{count_by}
use Rattle.std.specs.Str.{bytes_eq}
use Rattle.justfile_token.specs.declared.delimiter.Delimiter.{Delimiter}
use Rattle.justfile_token.specs.declared.delimiter.Delimiter.TheVariants.{Brace, Bracket, FormatString, Paren}
use Rattle.justfile_model.specs.declared.open_delimiter.OpenDelimiter.{OpenDelimiter}
use Rattle.justfile_vocabulary.specs.declared.token_kind.TokenKind.{TokenKind}
use Rattle.justfile_vocabulary.specs.declared.token_kind.TokenKind.TheVariants.{BraceL, BraceR, BracketL, BracketR, Colon, Dedent, Eol, FormatStringEnd, FormatStringStart, Identifier, Indent, InterpolationStart, InterpolationEnd, ParenL, ParenR, Whitespace}
use Rattle.justfile_model.specs.Lexing.Places.{is_line_feed}
use Rattle.justfile_model.specs.Lexing.Tok.{Tok}
use Rattle.justfile_token.specs.StringKind.{kind_of}
use Rattle.justfile_vocabulary.specs.ByteNames as byte

-- what the next token depends on, besides the remaining text
pub record Mode : Type 0 where
  -- the open delimiters, innermost first
  pub openers : List OpenDelimiter
  -- the blanks of the open indents, innermost first; the empty level below them isn't listed
  pub levels : List (List ℕ)
  -- there was a colon after the last dedent
  pub colon : Bool
  -- there was an indent after a colon, and no dedent since that colon
  pub in_body : Bool
  -- the token that began the open interpolation
  pub interpolation : Option Tok
  -- the next token is at column 0, unless the text ends here
  pub line_start : Bool
  -- the last token is the identifier `f`
  pub after_f : Bool

-- all elements but the first
abbrev pub tail_of : {A : Type 0} → List A → List A
tail_of [] = []
tail_of (x ∷ xs) = xs

-- the first element, if there is one
abbrev pub head_of : {A : Type 0} → List A → Option A
head_of [] = None
head_of (x ∷ xs) = Some x

-- the list is empty
abbrev pub is_empty : {A : Type 0} → List A → Bool
is_empty [] = true
is_empty (x ∷ xs) = false

-- the last byte is a line feed
abbrev pub ends_in_line_feed : List ℕ → Bool
ends_in_line_feed bs = slice_index bs (length bs - 1) == byte.line_feed

-- a delimiter that is opened on this line
abbrev pub opener : Delimiter → ℕ → OpenDelimiter
opener d n = record { delimiter = d; line = n }

-- the mode after a token; tokens of kinds that aren't named open and close nothing, and don't end a line
abbrev pub mode_after : TokenKind → Tok → Mode → Mode
mode_after BraceL t m = record m { openers = opener Brace t.line ∷ m.openers; line_start = false; after_f = false }
mode_after BracketL t m = record m { openers = opener Bracket t.line ∷ m.openers; line_start = false; after_f = false }
mode_after ParenL t m = record m { openers = opener Paren t.line ∷ m.openers; line_start = false; after_f = false }
mode_after FormatStringStart t m = record m { openers = opener (FormatString (kind_of t.lexeme)) (t.line + count_by is_line_feed t.lexeme) ∷ m.openers; line_start = false; after_f = false }
mode_after BraceR t m = record m { openers = tail_of m.openers; line_start = false; after_f = false }
mode_after BracketR t m = record m { openers = tail_of m.openers; line_start = false; after_f = false }
mode_after ParenR t m = record m { openers = tail_of m.openers; line_start = false; after_f = false }
mode_after FormatStringEnd t m = record m { openers = tail_of m.openers; line_start = false; after_f = false }
mode_after Colon t m = record m { colon = true; line_start = false; after_f = false }
mode_after Indent t m = record m { levels = t.lexeme ∷ m.levels; in_body = m.in_body || m.colon; line_start = false; after_f = false }
mode_after Dedent t m = record m { levels = tail_of m.levels; colon = false; in_body = false; after_f = false }
mode_after InterpolationStart t m = record m { interpolation = Some t; line_start = false; after_f = false }
mode_after InterpolationEnd t m = record m { interpolation = None; line_start = false; after_f = false }
mode_after Eol t m = record m { line_start = true; after_f = false }
mode_after Whitespace t m = record m { line_start = ends_in_line_feed t.lexeme; after_f = false }
mode_after Identifier t m = record m { line_start = false; after_f = bytes_eq t.lexeme (byte.letter_f ∷ []) }
mode_after _ t m = record m { line_start = false; after_f = false }

-- the mode before the first token
abbrev pub start_mode : Mode
start_mode = record { openers = []; levels = []; colon = false; in_body = false; interpolation = None; line_start = true; after_f = false }

-- the mode after the earlier tokens
abbrev pub mode : List Tok → Mode
mode [] = start_mode
mode (t ∷ earlier) = mode_after t.kind t (mode earlier)

-- the innermost level, or the empty one if none is open
abbrev pub innermost_of : List (List ℕ) → List ℕ
innermost_of [] = []
innermost_of (l ∷ ls) = l

-- the current level of the mode
abbrev pub innermost : Mode → List ℕ
innermost m = innermost_of m.levels

-- a delimiter or an interpolation is open
abbrev pub nested : Mode → Bool
nested m = not (is_empty m.openers) || is_some m.interpolation
