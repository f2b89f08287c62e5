-- Tables of the significant tokens of a text that was read one byte further, up to the first byte of what begins after it.
use Rattle.std.specs.Prelude.{◌≡◌, ℕ, ◌+◌, ◌-◌, ◌<◌, true, false, List, [], ◌∷◌, ◌++◌, length, reverse, slice_index, Option, None, Some}
use Rattle.justfile_vocabulary.specs.ByteNames as byte
use Rattle.justfile_vocabulary.specs.declared.token_kind.TokenKind.{TokenKind}
use Rattle.justfile_vocabulary.specs.declared.token_kind.TokenKind.TheVariants.{Eof}
use Rattle.justfile_token.specs.declared.token.Token.{Token}
use Rattle.justfile_model.specs.Lexing.BlankLines.{is_blank_or_line_end}
use Rattle.justfile_model.specs.Lexing.SignificantTokens.{SignificantToken, TableToken, is_whitespace, significant_tokens}
use Rattle.justfile_model.specs.Lexing.Tok.{Tok}
use Rattle.justfile_chunks.specs.Chunks.{IsCut}
use Rattle.justfile_chunks.specs.Cuts.{depth_after, is_cut, line_after}

-- A line begins here, at once.
pub record IsLineStart (text : List ℕ) (at : ℕ) : Type 0 where
  pub above : 0 < at
  pub within : at < length text
  pub feed : slice_index text (at - 1) ≡ byte.line_feed
  pub small : slice_index text at < 128
  pub is_other : is_blank_or_line_end (slice_index text at) ≡ false

-- The tokens are those of a part that ends at a cut, one more of one byte, and the end of the text; and these are the significant tokens of the part with that end.
pub record IsCutOff (tokens : List Tok) (table_tokens : List SignificantToken) : Type 0 where
  pub part : List Tok
  pub next : Tok
  pub end : Tok
  pub tokens_are : tokens ≡ part ++ (next ∷ end ∷ [])
  pub cut : IsCut (reverse part) (next ∷ end ∷ [])
  pub one_byte : length next.lexeme ≡ 1
  pub seen : is_whitespace next.kind ≡ false
  pub is_end : end.kind ≡ Eof
  pub is_empty : end.lexeme ≡ []
  pub significant_are : table_tokens ≡ significant_tokens (part ++ (end ∷ []))

-- ---- the test

-- the number of open levels after these tokens and others before them
abbrev pub depth_from : ℕ → List TableToken → ℕ
depth_from depth [] = depth
depth_from depth (table_token ∷ table_tokens) = depth_from (depth_after table_token.0.kind depth) table_tokens

abbrev pub depth_past : List TableToken → ℕ
depth_past = depth_from 0

-- the kind of the first token on the line after these tokens and others before them, if that line isn't ended
abbrev pub line_from : Option TokenKind → List TableToken → Option TokenKind
line_from line [] = line
line_from line (table_token ∷ table_tokens) = line_from (line_after table_token.0.kind line) table_tokens

abbrev pub line_past : List TableToken → Option TokenKind
line_past = line_from None

-- The last token but one is one byte, directly after the one before it and directly before the end, and by its kind and those before it the
-- text is cut there.
pub record IsTested (table : List TableToken) : Type 0 where
  pub others : List TableToken
  pub last : TableToken
  pub next : Token
  pub end : Token
  pub are : table ≡ others ++ (last ∷ (next, true) ∷ (end, true) ∷ [])
  pub one_byte : next.length ≡ 1
  pub cut : is_cut last.0.kind (depth_after last.0.kind (depth_past others)) (line_past others) (Some next.kind) ≡ true
