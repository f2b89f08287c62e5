-- Lexing by modes, where the mode after printed text is known except for positions.
use Rattle.std.proofs.Common.{◌≡◌, ◌≢◌, ℕ, ◌+◌, List, [], ◌∷◌, ◌++◌, length, take, drop, Ok, refl, sym, ap, ◌∙◌, arith}
use Rattle.std.specs.Str.{IsUtf8}
use Rattle.std.proofs.lemmas.Str.{IsUtf8-append, IsUtf8-nil}
use Rattle.justfile_vocabulary.specs.declared.token_kind.TokenKind.{TokenKind}
use Rattle.justfile_vocabulary.specs.declared.token_kind.TokenKind.TheVariants.{Eof, Eol, Whitespace}
use Rattle.justfile_model.specs.Lexing.Tok.{Tok}
use Rattle.justfile_model.specs.Lexing.Places.{line_of_offset, column_at}
use Rattle.justfile_model.specs.Lexing.Modes.{Mode, mode, start_mode, mode_after}
use Rattle.justfile_model.specs.Lexing.Next.{next}
use Rattle.std.proofs.lemmas.List.{drop-drop}
use Rattle.justfile_model.specs.Lexing.Lexed.{end_of, IsNext, Follows, Lexed}
use Rattle.justfile_model.proofs.Lexing.LexedLaws.{from_follows}

-- a token without its place
pub record Sign : Type 0 where
  pub kind : TokenKind
  pub lexeme : List ℕ

abbrev pub sign : TokenKind → List ℕ → Sign
sign k l = record { kind = k; lexeme = l }

-- the signs that separate others
abbrev pub space : Sign
space = sign Whitespace (32 ∷ [])

abbrev pub newline : Sign
newline = sign Eol (10 ∷ [])

abbrev pub placed : Sign → (offset line column : ℕ) → Tok
placed t o l c = record { kind = t.kind; lexeme = t.lexeme; offset = o; line = l; column = c }

abbrev pub tok_at : List ℕ → ℕ → Sign → Tok
tok_at text offset t = placed t offset (line_of_offset text offset) (column_at text offset)

-- these tokens, from the offset on, are the tokens of the rest
abbrev pub LexesIn : List ℕ → ℕ → Mode → List ℕ → List Sign → Type 0
LexesIn text offset m rest [] = (rest ≡ []) × (next m [] ≡ Ok (Eof, 0))
LexesIn text offset m rest (t ∷ ts) =
    (following : List ℕ) × (rest ≡ t.lexeme ++ following) × (next m rest ≡ Ok (t.kind, length t.lexeme)) × (t.kind ≢ Eof)
    × LexesIn text (offset + length t.lexeme) (mode_after t.kind (tok_at text offset t) m) following ts

-- the rest of a text is lexed to these tokens, at any position
pub record LexesTo (m : Mode) (rest : List ℕ) (ts : List Sign) : Type 0 where
  pub is : (text : List ℕ) (offset : ℕ) → LexesIn text offset m rest ts

-- one token, and the rest, at any position of the token
pub step_to : (m : Mode) (k : TokenKind) (l following : List ℕ) (ts : List Sign) → next m (l ++ following) ≡ Ok (k, length l) → k ≢ Eof → ((o n c : ℕ) → LexesTo (mode_after k (placed (sign k l) o n c) m) following ts) → LexesTo m (l ++ following) (sign k l ∷ ts)
step_to m k l following ts found goes_on more = record { is = λ text offset. (following, refl, found, goes_on, (more offset (line_of_offset text offset) (column_at text offset)).is text (offset + length l)) }

-- the text of these tokens
abbrev pub text_of : List Sign → List ℕ
text_of [] = []
text_of (t ∷ ts) = t.lexeme ++ text_of ts

-- The text of these tokens is UTF-8, and it is lexed to them at any position.
pub record Lexes (m : Mode) (ts : List Sign) : Type 0 where
  pub to : LexesTo m (text_of ts) ts
  pub utf8 : IsUtf8 (text_of ts)

pub step : (m : Mode) (k : TokenKind) (l : List ℕ) (ts : List Sign) → IsUtf8 l → next m (l ++ text_of ts) ≡ Ok (k, length l) → k ≢ Eof → ((o n c : ℕ) → Lexes (mode_after k (placed (sign k l) o n c) m) ts) → Lexes m (sign k l ∷ ts)
step m k l ts u found some more = record {
  to = step_to m k l (text_of ts) ts found some (λ o n c. (more o n c).to);
  utf8 = IsUtf8-append l (text_of ts) u (more 0 0 0).utf8;
}

pub end : (m : Mode) → next m [] ≡ Ok (Eof, 0) → Lexes m []
end m e = record { to = record { is = λ text offset. (refl, e) }; utf8 = IsUtf8-nil }

-- the tokens with their places
abbrev pub toks : List ℕ → ℕ → List Sign → List Tok
toks text offset [] = tok_at text offset (sign Eof []) ∷ []
toks text offset (t ∷ ts) = tok_at text offset t ∷ toks text (offset + length t.lexeme) ts

pub take_front : (xs ys : List ℕ) → take (length xs) (xs ++ ys) ≡ xs
take_front [] ys = refl
take_front (x ∷ xs) ys = ap (λ l. x ∷ l) (take_front xs ys)

pub drop_front : (xs ys : List ℕ) → drop (length xs) (xs ++ ys) ≡ ys
drop_front [] ys = refl
drop_front (x ∷ xs) ys = drop_front xs ys

pub drop_drop : (m n : ℕ) (xs : List ℕ) → drop (m + n) xs ≡ drop n (drop m xs)
drop_drop m n xs = ap (λ k. drop k xs) (omega arith) ∙ sym (drop-drop n m xs)

cons_follows : (text : List ℕ) (e : List Tok) (t : Tok) (us : List Tok) → IsNext text e t → t.kind ≢ Eof → Follows text (t ∷ e) us → Follows text e (t ∷ us)
cons_follows text e t [] n g f = absurd f
cons_follows text e t (u ∷ us) n g f = (n, g, f)

module _ (text : List ℕ) where
  is_next : (e : List Tok) (t : Sign) (m : Mode) (offset : ℕ) (rest following : List ℕ) → mode e ≡ m → end_of e ≡ offset → drop offset text ≡ rest → rest ≡ t.lexeme ++ following → next m rest ≡ Ok (t.kind, length t.lexeme) → IsNext text e (tok_at text offset t)
  is_next e t m offset rest following em eo er split found = record {
    stands = record {
      offset_is = sym eo;
      lexeme_is = sym (ap (take (length t.lexeme)) (er ∙ split) ∙ take_front t.lexeme following);
      line_is = refl;
      column_is = refl;
    };
    found = (λ i. next (em i) ((ap (λ n. drop n text) eo ∙ er) i)) ∙ found;
  }

  pub follows : (ts : List Sign) (e : List Tok) (m : Mode) (offset : ℕ) (rest : List ℕ) → mode e ≡ m → end_of e ≡ offset → drop offset text ≡ rest → LexesIn text offset m rest ts → Follows text e (toks text offset ts)
  follows [] e m offset rest em eo er h = (is_next e (sign Eof []) m offset rest [] em eo er h.0 (ap (next m) h.0 ∙ h.1), refl)
  follows (t ∷ ts) e m offset rest em eo er h =
      let following = h.0 in
      let moved : drop (offset + length t.lexeme) text ≡ following = drop_drop offset (length t.lexeme) text ∙ ap (drop (length t.lexeme)) (er ∙ h.1) ∙ drop_front t.lexeme following in
      cons_follows text e (tok_at text offset t) _ (is_next e t m offset rest following em eo er h.1 h.2) h.3
      (follows ts (tok_at text offset t ∷ e) (mode_after t.kind (tok_at text offset t) m) (offset + length t.lexeme) following (ap (mode_after t.kind (tok_at text offset t)) em) refl moved h.4)

-- what reads from the start is the text's tokens
pub lexed : (text : List ℕ) (ts : List Sign) → LexesTo start_mode text ts → Lexed text (toks text 0 ts)
lexed text ts r = from_follows text [] (toks text 0 ts) tt (follows text ts [] start_mode 0 text refl refl refl (r.is text 0))
