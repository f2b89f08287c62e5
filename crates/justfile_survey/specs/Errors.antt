-- Where the errors of a text are shown, and whose messages name lines.
use Rattle.std.specs.Prelude.{◌≡◌, ◌<◌, ℕ, ◌+◌, ◌-◌, Bool, false, true, List, slice_index}
use Rattle.justfile_vocabulary.specs.ByteNames as byte
use Rattle.justfile_vocabulary.specs.declared.token_kind.TokenKind.TheVariants.{Eof}
use Rattle.justfile_token.specs.declared.compile_error_kind.CompileErrorKind.{CompileErrorKind}
use Rattle.justfile_token.specs.declared.compile_error_kind.CompileErrorKind.TheVariants as kinds
use Rattle.justfile_token.specs.declared.token.Token.{Token}
use Rattle.justfile_chunks.specs.Spans.{span}
use Rattle.justfile_chunks.specs.declared.span.Span.{Span}

-- The token is the end of the text, after a line feed.
pub record EndsAfterFeed (text : List ℕ) (t : Token) : Type 0 where
  pub is_end : t.kind ≡ Eof
  pub after : 0 < t.offset
  pub feed : slice_index text (t.offset - 1) ≡ byte.line_feed

-- An error is shown at its token, or before the last line feed if that is the end.
pub data IsPlaceOf (text : List ℕ) (t : Token) (s : Span) : Type 0 where
  before_feed : EndsAfterFeed text t → s ≡ span (t.offset - 1) (t.offset - 1) → IsPlaceOf text t s
  at_token : (EndsAfterFeed text t → ⊥) → s ≡ span t.offset (t.offset + t.length) → IsPlaceOf text t s

-- the message of an error of this kind names a line besides that of its token
abbrev pub names_lines : CompileErrorKind → Bool
names_lines (kinds.DuplicateArgAttribute _ _) = true
names_lines (kinds.DuplicateAttribute _ _) = true
names_lines (kinds.DuplicateGroupAttribute _ _) = true
names_lines (kinds.MismatchedClosingDelimiter _ _ _) = true
names_lines _ = false
