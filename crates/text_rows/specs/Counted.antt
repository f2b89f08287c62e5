-- What the program prints for a text.
use Rattle.std.specs.Prelude.{◌≡◌, ℕ, List, length}
use Rattle.text_rows.specs.declared.token_count.TokenCount.{TokenCount}
use Rattle.text_rows.specs.declared.token_count.TokenCount.TheVariants.{Tokens, Rejected}
use Rattle.justfile_model.specs.Lexing.LexicalFault.{LexicalFault}
use Rattle.justfile_model.specs.Lexing.Lexed.{Lexed, IsFault}
use Rattle.justfile_model.specs.Lexing.Tok.{Tok}

-- The text has `count` tokens.
pub record IsCount (text : List ℕ) (count : ℕ) : Type 0 where
  pub tokens : List Tok
  pub lexed : Lexed text tokens
  pub count_is : length tokens ≡ count

-- The text has a lexical fault at this byte offset.
pub record HasFaultAt (text : List ℕ) (offset : ℕ) : Type 0 where
  pub fault : LexicalFault
  pub span : Tok
  pub is_fault : IsFault text fault span
  pub offset_is : span.offset ≡ offset

abbrev pub IsAnswer : List ℕ → TokenCount → Type 0
IsAnswer text (Tokens count) = IsCount text count
IsAnswer text (Rejected offset) = HasFaultAt text offset
