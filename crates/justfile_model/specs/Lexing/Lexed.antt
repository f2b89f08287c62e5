-- The tokens of a text.
use Rattle.std.specs.Prelude.{◌≡◌, ◌≢◌, ℕ, ◌+◌, List, [], ◌∷◌, ◌++◌, ◌⊎◌, length, drop, reverse, Ok, Err}
use Rattle.std.specs.List.{All}
use Rattle.justfile_vocabulary.specs.declared.token_kind.TokenKind.TheVariants.{Eof, Unspecified}
use Rattle.justfile_token.specs.Slice.{slice_of}
use Rattle.justfile_model.specs.Lexing.Tok.{Tok}
use Rattle.justfile_model.specs.Lexing.Modes.{mode}
use Rattle.justfile_model.specs.Lexing.Places.{line_of_offset, column_at}
use Rattle.justfile_model.specs.Lexing.LexicalFault.{LexicalFault, UnterminatedInterpolation, LexicalError, Here, Unclosed}
use Rattle.justfile_model.specs.Lexing.Next.{NextToken, next}

-- the end of the earlier tokens, whose list has the last one first
abbrev pub end_of : List Tok → ℕ
end_of [] = 0
end_of (t ∷ earlier) = t.offset + length t.lexeme

-- the next token after the earlier ones
abbrev pub next_of : List ℕ → List Tok → NextToken
next_of text earlier = next (mode earlier) (drop (end_of earlier) text)

-- The token begins at the offset, and has the lexeme, line and column that the text has there.
pub record StandsAt (text : List ℕ) (offset : ℕ) (t : Tok) : Type 0 where
  pub offset_is : t.offset ≡ offset
  pub lexeme_is : t.lexeme ≡ slice_of text t.offset (length t.lexeme)
  pub line_is : t.line ≡ line_of_offset text t.offset
  pub column_is : t.column ≡ column_at text t.offset

-- the same for a token that begins at the end of the earlier ones
abbrev pub Stands : List ℕ → List Tok → Tok → Type 0
Stands text earlier t = StandsAt text (end_of earlier) t

-- the token is the next one after the earlier ones
pub record IsNext (text : List ℕ) (earlier : List Tok) (t : Tok) : Type 0 where
  pub stands : Stands text earlier t
  pub found : next_of text earlier ≡ Ok (t.kind, length t.lexeme)

-- Each token is the next one after those before it, and none is `Eof`.
abbrev pub Begins : List ℕ → List Tok → Type 0
Begins text [] = Unit {0}
Begins text (t ∷ earlier) = Begins text earlier × IsNext text earlier t × (t.kind ≢ Eof)

-- these are all the tokens of the text
pub record Lexed (text : List ℕ) (tokens : List Tok) : Type 0 where
  pub earlier : List Tok
  pub last : Tok
  pub are : reverse tokens ≡ last ∷ earlier
  pub begins : Begins text earlier
  pub is_next : IsNext text earlier last
  pub is_end : last.kind ≡ Eof

-- The last token is the only `Eof`. It is empty and at the end of the text.
pub record EndsInEof (text : List ℕ) (tokens : List Tok) : Type 0 where
  pub front : List Tok
  pub last : Tok
  pub are : tokens ≡ front ++ (last ∷ [])
  pub is_end : last.kind ≡ Eof
  pub lexeme_is : last.lexeme ≡ []
  pub offset_is : last.offset ≡ length text
  pub only_there : All (λ t. t.kind ≢ Eof) front

-- exactly these tokens follow the earlier ones, up to and including `Eof`
abbrev pub Follows : List ℕ → List Tok → List Tok → Type 0
Follows text earlier [] = ⊥
Follows text earlier (t ∷ []) = IsNext text earlier t × (t.kind ≡ Eof)
Follows text earlier (t ∷ u ∷ ts) = IsNext text earlier t × (t.kind ≢ Eof) × Follows text (t ∷ earlier) (u ∷ ts)

-- the fault of the lexical error, and the part of the text at which it is reported
abbrev pub IsSpan : List ℕ → List Tok → LexicalError → LexicalFault → Tok → Type 0
IsSpan text earlier (Here p skip n) fault span = (fault ≡ p) × (span.kind ≡ Unspecified) × (length span.lexeme ≡ n) × StandsAt text (end_of earlier + skip) span
IsSpan text earlier (Unclosed t) fault span = (fault ≡ UnterminatedInterpolation) × (span ≡ t)

-- after some tokens there is no next token, because of this fault, which is reported at this part of the text
pub record IsFault (text : List ℕ) (fault : LexicalFault) (span : Tok) : Type 0 where
  pub earlier : List Tok
  pub begins : Begins text earlier
  pub refusal : LexicalError
  pub refused : next_of text earlier ≡ Err refusal
  pub spans : IsSpan text earlier refusal fault span

-- the text has tokens or a fault
abbrev pub IsAnswered : List ℕ → Type 0
IsAnswered text = ((tokens : List Tok) × Lexed text tokens) ⊎ ((fault : LexicalFault) × (span : Tok) × IsFault text fault span)
