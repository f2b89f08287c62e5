-- Blank lines before which indentation levels close.
use Rattle.std.specs.Prelude.{◌≡◌, ℕ, Bool, IsTrue, false, ◌||◌, ◌==◌, ◌⊎◌, List, [], ◌∷◌, ◌++◌, None}
use Rattle.std.specs.List.{All, AllPass}
use Rattle.justfile_vocabulary.specs.declared.token_kind.TokenKind.TheVariants.{Dedent}
use Rattle.justfile_model.specs.Lexing.Bytes.{is_line_end}
use Rattle.justfile_model.specs.Lexing.Lexed.{Begins}
use Rattle.justfile_model.specs.Lexing.Modes.{Mode, mode}
use Rattle.justfile_model.specs.Lexing.Tok.{Tok}
use Rattle.justfile_vocabulary.specs.Indentation.{is_space_or_tab}
use Rattle.justfile_vocabulary.specs.ByteNames as byte

-- A line starts here, and no delimiter and no interpolation is open.
pub record IsAtLineStart (m : Mode) : Type 0 where
  pub line_start : IsTrue m.line_start
  pub no_delimiter : m.openers ≡ []
  pub no_interpolation : m.interpolation ≡ None

-- a space, a tab, a carriage return or a line feed
abbrev pub is_blank_or_line_end : ℕ → Bool
is_blank_or_line_end b = b == byte.space || b == byte.tab || b == byte.carriage_return || b == byte.line_feed

-- The text begins with a blank line: spaces and tabs, then a line end or the end of the text.
pub record BeginsWithBlankLine (text : List ℕ) : Type 0 where
  pub blanks : List ℕ
  pub follows : List ℕ
  pub are : text ≡ blanks ++ follows
  pub are_blanks : AllPass is_space_or_tab blanks
  pub ends : IsTrue (is_line_end follows) ⊎ (follows ≡ [])

-- The longest run of white bytes at the start of the text ends in a line feed, and another byte follows it.
pub record BeginsWithWhiteLines (text : List ℕ) : Type 0 where
  pub run : List ℕ
  pub next : ℕ
  pub follows : List ℕ
  pub are : text ≡ run ++ (byte.line_feed ∷ (next ∷ follows))
  pub is_run : AllPass is_blank_or_line_end run
  pub run_ends : is_blank_or_line_end next ≡ false

-- The next tokens are dedents, until no level is open.
pub record LevelsClose (text : List ℕ) (earlier : List Tok) : Type 0 where
  pub dedents : List Tok
  pub are_dedents : All (λ t. t.kind ≡ Dedent) dedents
  pub begins : Begins text (dedents ++ earlier)
  pub none_open : (mode (dedents ++ earlier)).levels ≡ []
