-- Tokens of fixed text inside a line lex to the printer's tokens.
use Rattle.std.proofs.Common.{◌≡◌, ◌≢◌, ℕ, Bool, true, false, cond, eqb, List, [], ◌∷◌, ◌++◌, length, get_or, Option, Ok, refl, sym, ap, ◌∙◌, subst}
use Rattle.std.proofs.Math.Bool.{and-false}
use Rattle.justfile_token.specs.declared.delimiter.Delimiter.{Delimiter}
use Rattle.justfile_vocabulary.specs.declared.byte_class.ByteClass.TheVariants as classes
use Rattle.justfile_token.specs.declared.delimiter.Delimiter.TheVariants.{Brace, Bracket, Paren}
use Rattle.justfile_vocabulary.specs.declared.token_kind.TokenKind.{TokenKind}
use Rattle.justfile_vocabulary.specs.declared.token_kind.TokenKind.TheVariants.{AmpersandAmpersand, Asterisk, Bang, BangEquals, BangTilde, BarBar, BraceL, BraceR, BracketL, BracketR, ColonColon, ColonEquals, Comma, Dollar, Eof, Equals, EqualsEquals, EqualsTilde, ParenL, ParenR, Plus, PlusPlus, QuestionMark, Slash}
use Rattle.justfile_vocabulary.specs.ByteClass.{class_of}
use Rattle.justfile_model.specs.declared.open_delimiter.OpenDelimiter.{OpenDelimiter}
use Rattle.justfile_model.specs.Lexing.Tok.{Tok}
use Rattle.justfile_model.specs.Lexing.Modes.{is_empty, opener, mode_after}
use Rattle.justfile_model.specs.Lexing.Next.{fixed_token, token_by_class}
use Rattle.justfile_round_trip.proofs.LiteralTexts.LexedModes.{Sign, sign, Lexes, text_of, step}
use Rattle.justfile_round_trip.proofs.LiteralTexts.Inline.{all_ascii, amid, amid_next, and_false, fixed_utf8}

-- These bytes are a token of this kind, whatever follows them.
pub data IsFixed : TokenKind → List ℕ → Type 0 where
  dollar : IsFixed Dollar (36 ∷ [])
  asterisk : IsFixed Asterisk (42 ∷ [])
  comma : IsFixed Comma (44 ∷ [])
  slash : IsFixed Slash (47 ∷ [])
  question_mark : IsFixed QuestionMark (63 ∷ [])
  and : IsFixed AmpersandAmpersand (38 ∷ 38 ∷ [])
  or : IsFixed BarBar (124 ∷ 124 ∷ [])
  plus_plus : IsFixed PlusPlus (43 ∷ 43 ∷ [])
  equals_equals : IsFixed EqualsEquals (61 ∷ 61 ∷ [])
  equals_tilde : IsFixed EqualsTilde (61 ∷ 126 ∷ [])
  bang_equals : IsFixed BangEquals (33 ∷ 61 ∷ [])
  bang_tilde : IsFixed BangTilde (33 ∷ 126 ∷ [])
  colon_equals : IsFixed ColonEquals (58 ∷ 61 ∷ [])
  colon_colon : IsFixed ColonColon (58 ∷ 58 ∷ [])

-- this byte opens the delimiter, or closes it
pub data Opens : Delimiter → TokenKind → ℕ → Type 0 where
  paren : Opens Paren ParenL 40
  bracket : Opens Bracket BracketL 91
  brace : Opens Brace BraceL 123

pub data Closes : Delimiter → TokenKind → ℕ → Type 0 where
  end_paren : Closes Paren ParenR 41
  end_bracket : Closes Bracket BracketR 93
  end_brace : Closes Brace BraceR 125

module _ {os : List OpenDelimiter} {ls : List (List ℕ)} {c : Bool} {i : Option Tok} {f : Bool} where
  -- a token that keeps the mode, before a byte that doesn't lengthen it
  fixed_step : (k : TokenKind) (b : ℕ) (bs : List ℕ) {ts : List Sign} → class_of b ≡ classes.Fixed → eqb b 125 ≡ false → all_ascii (b ∷ bs) ≡ true
      → fixed_token b (b ∷ bs ++ text_of ts) ≡ Ok (k, length (b ∷ bs)) → k ≢ Eof
      → ((t : Tok) → mode_after k t (amid os ls c i f) ≡ amid os ls c i false) → Lexes (amid os ls c i false) ts → Lexes (amid os ls c i f) (sign k (b ∷ bs) ∷ ts)
  unfolding token_by_class
  fixed_step k b bs {ts} class no_brace ascii found goes_on same r =
      step (amid os ls c i f) k (b ∷ bs) ts (fixed_utf8 (b ∷ bs) ascii)
      (amid_next os ls c i f b (bs ++ text_of ts) (and_false (is_empty os) _ _ no_brace)
      ∙ ap (λ q. token_by_class (amid os ls c i f) q (b ∷ bs ++ text_of ts)) class
      ∙ found)
      goes_on
      (λ o n col. subst (λ m. Lexes m ts) (sym (same _)) r)

  pub token_step : {k : TokenKind} {bs : List ℕ} {ts : List Sign} → IsFixed k bs → Lexes (amid os ls c i false) ts → Lexes (amid os ls c i f) (sign k bs ∷ ts)
  unfolding class_of fixed_token
  token_step dollar r = fixed_step _ _ _ refl refl refl refl (λ e. cc) (λ t. refl) r
  token_step _ r = fixed_step _ _ _ refl refl refl refl (λ e. cc) (λ t. refl) r

  -- a plus, before a byte that doesn't make it another operator
  pub plus_step : {ts : List Sign} → eqb (get_or (text_of ts) 0 0) 43 ≡ false → Lexes (amid os ls c i false) ts → Lexes (amid os ls c i f) (sign Plus (43 ∷ []) ∷ ts)
  unfolding class_of fixed_token
  plus_step plus k = fixed_step Plus 43 [] refl refl refl (λ j. cond (plus j) (Ok (PlusPlus, 2)) (Ok (Plus, 1))) (λ e. cc) (λ t. refl) k

  pub equals_step : {ts : List Sign} → eqb (get_or (text_of ts) 0 0) 61 ≡ false → eqb (get_or (text_of ts) 0 0) 126 ≡ false → Lexes (amid os ls c i false) ts → Lexes (amid os ls c i f) (sign Equals (61 ∷ []) ∷ ts)
  unfolding class_of fixed_token
  equals_step equals tilde k = fixed_step Equals 61 [] refl refl refl (λ j. cond (equals j) (Ok (EqualsEquals, 2)) (cond (tilde j) (Ok (EqualsTilde, 2)) (Ok (Equals, 1)))) (λ e. cc) (λ t. refl) k

  pub bang_step : {ts : List Sign} → eqb (get_or (text_of ts) 0 0) 61 ≡ false → eqb (get_or (text_of ts) 0 0) 126 ≡ false → Lexes (amid os ls c i false) ts → Lexes (amid os ls c i f) (sign Bang (33 ∷ []) ∷ ts)
  unfolding class_of fixed_token
  bang_step equals tilde k = fixed_step Bang 33 [] refl refl refl (λ j. cond (equals j) (Ok (BangEquals, 2)) (cond (tilde j) (Ok (BangTilde, 2)) (Ok (Bang, 1)))) (λ e. cc) (λ t. refl) k

  pub open_step : {d : Delimiter} {k : TokenKind} {b : ℕ} {ts : List Sign} → Opens d k b
      → ((line : ℕ) → Lexes (amid (opener d line ∷ os) ls c i false) ts) → Lexes (amid os ls c i f) (sign k (b ∷ []) ∷ ts)
  unfolding token_by_class class_of
  open_step {b = b} {ts} paren r = step (amid os ls c i f) _ (b ∷ []) ts (fixed_utf8 (b ∷ []) refl) (amid_next os ls c i f b (text_of ts) (and-false (is_empty os))) (λ e. cc) (λ o n col. r n)
  open_step {b = b} {ts} _ r = step (amid os ls c i f) _ (b ∷ []) ts (fixed_utf8 (b ∷ []) refl) (amid_next os ls c i f b (text_of ts) (and-false (is_empty os))) (λ e. cc) (λ o n col. r n)

  pub close_step : {d : Delimiter} {k : TokenKind} {b line : ℕ} {ts : List Sign} → Closes d k b
      → Lexes (amid os ls c i false) ts → Lexes (amid (opener d line ∷ os) ls c i f) (sign k (b ∷ []) ∷ ts)
  unfolding token_by_class class_of
  close_step {d} {b = b} {line} {ts} end_paren r =
      step (amid (opener d line ∷ os) ls c i f) _ (b ∷ []) ts (fixed_utf8 (b ∷ []) refl) (amid_next (opener d line ∷ os) ls c i f b (text_of ts) refl) (λ e. cc) (λ o n col. r)
  close_step {d} {b = b} {line} {ts} _ r =
      step (amid (opener d line ∷ os) ls c i f) _ (b ∷ []) ts (fixed_utf8 (b ∷ []) refl) (amid_next (opener d line ∷ os) ls c i f b (text_of ts) refl) (λ e. cc) (λ o n col. r)
