-- The spans of the chunks of a text.
use Rattle.std.specs.Prelude.{◌≡◌, ℕ, ◌+◌, ◌-◌, ◌≤◌, List, [], ◌∷◌, map, length, All}
use Rattle.std.specs.Str.{IsCharBoundary}
use Rattle.justfile_token.specs.Slice.{slice_of}
use Rattle.justfile_model.specs.Lexing.Tok.{Tok}
use Rattle.justfile_chunks.specs.Chunks.{AreParts, chunk_texts}
use Rattle.justfile_chunks.specs.declared.span.Span.{Span}

-- the span from one offset up to another one
abbrev pub span : (start end : ℕ) → Span
span start end = record { start = start; end = end }

-- the end of the last token, or this offset if there is none
abbrev pub end_after : ℕ → List Tok → ℕ
end_after offset [] = offset
end_after offset (t ∷ tokens) = end_after (t.offset + length t.lexeme) tokens

-- from the offset of the first token to the end of the last one
abbrev pub span_of : List Tok → Span
span_of [] = span 0 0
span_of (t ∷ part) = span t.offset (end_after t.offset (t ∷ part))

-- Each span begins where the one before it ends. The first one begins at one offset, and the last one ends at the other.
abbrev pub Tile : (from to : ℕ) → List Span → Type 0
Tile from to [] = from ≡ to
Tile from to (s ∷ spans) = (s.start ≡ from) × Tile s.end to spans

-- the text can be sliced by the span, and from the byte before it on
pub record IsIn (text : List ℕ) (s : Span) : Type 0 where
  pub forward : s.start ≤ s.end
  pub from : IsCharBoundary text s.start
  pub from_feed : IsCharBoundary text (s.start - 1)
  pub to : IsCharBoundary text s.end

-- the text in a span
abbrev pub text_in : List ℕ → Span → List ℕ
text_in text s = slice_of text s.start (s.end - s.start)

-- the text in a span from the byte before it on
abbrev pub text_from_feed : List ℕ → Span → List ℕ
text_from_feed text s = text_in text (span (s.start - 1) s.end)

-- the text in the first span, and that in each other one from the line feed before it on
abbrev pub texts_in : List ℕ → List Span → List (List ℕ)
texts_in text [] = []
texts_in text (s ∷ spans) = text_in text s ∷ map (text_from_feed text) spans

-- The tokens of the text are in parts, of which these are the spans. They tile the text, and the texts in them are those of the chunks.
pub record AreChunks (text : List ℕ) (tokens : List Tok) (spans : List Span) : Type 0 where
  pub parts : List (List Tok)
  pub are_parts : AreParts tokens parts
  pub spans_are : spans ≡ map span_of parts
  pub tile : Tile 0 (length text) spans
  pub are_in : All (IsIn text) spans
  pub texts_are : texts_in text spans ≡ chunk_texts parts
