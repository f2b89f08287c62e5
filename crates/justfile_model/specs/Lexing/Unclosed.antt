-- What tokens open and don't close, in source order: delimiters, levels, and an interpolation.
use Rattle.std.specs.Prelude.{◌≡◌, ◌≢◌, ℕ, ◌+◌, List, [], ◌∷◌, ◌++◌, Option, Some, None}
use Rattle.std.specs.List.{count_by}
use Rattle.justfile_token.specs.declared.delimiter.Delimiter.{Delimiter}
use Rattle.justfile_token.specs.declared.delimiter.Delimiter.TheVariants.{Brace, Bracket, FormatString, Paren}
use Rattle.justfile_vocabulary.specs.declared.token_kind.TokenKind.{TokenKind}
use Rattle.justfile_vocabulary.specs.declared.token_kind.TokenKind.TheVariants as kinds
use Rattle.justfile_token.specs.StringKind.{kind_of}
use Rattle.justfile_model.specs.declared.open_delimiter.OpenDelimiter.{OpenDelimiter}
use Rattle.justfile_model.specs.Lexing.Places.{is_line_feed}
use Rattle.justfile_model.specs.Lexing.Tok.{Tok}

-- Things that tokens open and close: `opened` is the thing that a token opens, if any, and `closer` is the kind of the tokens that close
-- it.
module _ {X : Type 0} (opened : Tok → Option X) (closer : X → TokenKind) where
  -- The tokens close exactly what they open: there are no tokens; or one that opens and closes nothing, and balanced ones; or one that
  -- opens a thing, balanced ones, one that closes the thing, and balanced ones.
  pub data Balanced : List Tok → Type 0 where
    NoTokens : Balanced []
    Another : (t : Tok) (ts : List Tok) → opened t ≡ None → ((x : X) → closer x ≢ t.kind) → Balanced ts → Balanced (t ∷ ts)
    Pair : (x : X) (start : Tok) (inside : List Tok) (end : Tok) (ts : List Tok) → opened start ≡ Some x → Balanced inside
        → closer x ≡ end.kind → Balanced ts → Balanced (start ∷ (inside ++ (end ∷ ts)))

  -- what the tokens open and don't close, last thing first: balanced tokens, one that opens a thing, balanced ones, and so on
  pub data Unclosed : List Tok → List X → Type 0 where
    Nothing : (ts : List Tok) → Balanced ts → Unclosed ts []
    OneMore : (ts : List Tok) (xs : List X) (x : X) (start : Tok) (after : List Tok) → Unclosed ts xs
        → opened start ≡ Some x → Balanced after → Unclosed (ts ++ (start ∷ after)) (x ∷ xs)

-- the delimiter that a token of this kind opens, and the line on which the token ends; the other kinds open none
abbrev pub delimiter_by : TokenKind → Tok → Option OpenDelimiter
delimiter_by kinds.BraceL t = Some (record { delimiter = Brace; line = t.line })
delimiter_by kinds.BracketL t = Some (record { delimiter = Bracket; line = t.line })
delimiter_by kinds.ParenL t = Some (record { delimiter = Paren; line = t.line })
delimiter_by kinds.FormatStringStart t =
    Some (record { delimiter = FormatString (kind_of t.lexeme); line = t.line + count_by is_line_feed t.lexeme })
delimiter_by _ t = None

-- the delimiter that a token opens, and the line on which the token ends
abbrev pub delimiter_of : Tok → Option OpenDelimiter
delimiter_of t = delimiter_by t.kind t

-- the kind of the tokens that close the delimiter
abbrev pub delimiter_closer : Delimiter → TokenKind
delimiter_closer Brace = kinds.BraceR
delimiter_closer Bracket = kinds.BracketR
delimiter_closer Paren = kinds.ParenR
delimiter_closer (FormatString k) = kinds.FormatStringEnd

-- the delimiters that the tokens open and don't close, innermost first
abbrev pub UnclosedDelimiters : List Tok → List OpenDelimiter → Type 0
UnclosedDelimiters = Unclosed delimiter_of (λ o. delimiter_closer o.delimiter)

-- the level that an indent opens: its blanks; no other token opens one
abbrev pub level_by : TokenKind → Tok → Option (List ℕ)
level_by kinds.Indent t = Some t.lexeme
level_by _ t = None

-- the blanks of the indents that aren't closed by a dedent, innermost first
abbrev pub UnclosedLevels : List Tok → List (List ℕ) → Type 0
UnclosedLevels = Unclosed (λ t. level_by t.kind t) (λ blanks. kinds.Dedent)

-- the interpolation that a token opens, as its token; no token of another kind opens one
abbrev pub interpolation_opened : TokenKind → Tok → Option Tok
interpolation_opened kinds.InterpolationStart t = Some t
interpolation_opened _ t = None

-- the tokens that begin an interpolation without an end
abbrev pub UnclosedInterpolations : List Tok → List Tok → Type 0
UnclosedInterpolations = Unclosed (λ t. interpolation_opened t.kind t) (λ start. kinds.InterpolationEnd)
