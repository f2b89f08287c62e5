-- The parser of pieces finds each piece and each bad piece.
use Rattle.std.proofs.Common.{◌≡◌, ◌≢◌, ℕ, ◌<◌, ◌≤◌, false, cond, List, [], ◌∷◌, ◌++◌, length, take, drop, Option, Some, None, Ok, Err, refl, sym, ap, ap₂, subst, ◌∙◌, inl, inr, arith, append_assoc, codes, slice_index, nat_lt}
use Rattle.std.specs.Prelude.{option_to_list}
use Rattle.std.specs.Char.{IsScalar}
use Rattle.std.specs.Str.Parse.{digits_value}
use Rattle.std.proofs.Math.Seq.{take-append_seam, drop-append_seam}
use Rattle.std.proofs.lemmas.Bool.{cases_eq, cond-false, cond-true, false_from_ne_true, le-ltb, lt-ltb, ne_eqb}
use Rattle.justfile_model.specs.LiteralTexts.Cook.{AreHex, BadPiece, CarriageReturnLineFeed, Empty, EndsAtBackslash, EndsAtU, EndsInBraces, IsBad, IsPiece, LineFeed, Named, NoDigit, OutOfRange, Piece, Plain, TooLong, Unicode, Unknown, Unopened, bad_text, fault_of, named, raw_of, value_of}
use Rattle.justfile_model.specs.LiteralTexts.EscapeFault.{InvalidEscapeSequence, UnicodeEscapeLength, UnicodeEscapeRange, UnicodeEscapeUnterminated}
use Rattle.justfile_model.specs.LiteralTexts.FirstPiece.{PieceRead, closing_brace, digits, escape_piece, known, line_feed_piece, number, first_escaped_piece}
use Rattle.justfile_literal_parts.proofs.Digits.{hex_is, is_hex_head}

-- the piece at the front, where there is one
abbrev pub front : List ℕ → PieceRead
front [] = Err UnicodeEscapeUnterminated
front (c ∷ cs) = first_escaped_piece c cs

-- the piece is read, and this follows it
pub record Gives (p : Piece) (rest : List ℕ) (found : PieceRead) : Type 0 where
  pub value : Option ℕ
  pub found_is : found ≡ Ok (value, rest)
  pub value_is : option_to_list value ≡ value_of p

some_number : (hex rest : List ℕ) → 0 < length hex → IsScalar (digits_value 16 hex) → number hex rest ≡ Ok (Some (digits_value 16 hex), rest)
some_number hex rest some ok = cond-false _ _ _ (ne_eqb (length hex) 0 (λ e. omega arith)) ∙ cond-true _ _ _ ok

no_number : (hex rest : List ℕ) → 0 < length hex → (IsScalar (digits_value 16 hex) → ⊥) → number hex rest ≡ Err (UnicodeEscapeRange hex)
no_number hex rest some bad = cond-false _ _ _ (ne_eqb (length hex) 0 (λ e. omega arith)) ∙ cond-false _ _ _ (false_from_ne_true _ bad)

few_digits : (hex rest : List ℕ) → AreHex hex → length hex ≤ 6 → is_hex_head rest ≡ false → digits (hex ++ rest) ≡ closing_brace hex rest
few_digits hex rest h le stop =
    let cs = hex ++ rest in
    ap (λ (n : ℕ). cond (nat_lt 6 n) (Err (UnicodeEscapeLength (take n cs))) (closing_brace (take n cs) (drop n cs))) (hex_is 7 hex rest h (omega arith) (λ _. stop))
    ∙ cond-false _ _ _ (le-ltb 6 (length hex) le)
    ∙ ap₂ closing_brace (take-append_seam hex rest) (drop-append_seam hex rest)

many_digits : (hex rest : List ℕ) → AreHex hex → length hex ≡ 7 → digits (hex ++ rest) ≡ Err (UnicodeEscapeLength hex)
many_digits hex rest h e =
    let cs = hex ++ rest in
    ap (λ (n : ℕ). cond (nat_lt 6 n) (Err (UnicodeEscapeLength (take n cs))) (closing_brace (take n cs) (drop n cs))) (hex_is 7 hex rest h (omega arith) (λ l. absurd (omega arith)))
    ∙ cond-true _ _ _ (lt-ltb 6 (length hex) (omega arith))
    ∙ ap (λ (l : List ℕ). Err (UnicodeEscapeLength l)) (take-append_seam hex rest)

-- where a character is named, it is none that is not
apart : (c value k : ℕ) → named c ≡ Some value → named k ≡ None → c ≢ k
apart c value k h n e = let same = ap named e in absurd (cc)

-- a character that doesn't begin another escape
plain_escape : (c : ℕ) (rest : List ℕ) (value : Option ℕ) → c ≢ 117 → c ≢ 13 → c ≢ 10 → named c ≡ value → escape_piece (c ∷ rest) ≡ known c value rest
plain_escape c rest value u r l e =
    cond-false _ _ _ (ne_eqb c 117 u) ∙ cond-false _ _ _ (ne_eqb c 13 r) ∙ cond-false _ _ _ (ne_eqb c 10 l) ∙ ap (λ (o : Option ℕ). known c o rest) e

pub good_front : (p : Piece) (rest : List ℕ) → IsPiece p → Gives p rest (front (raw_of p ++ rest))
good_front (Plain c) rest h = record { value = Some c; found_is = cond-false _ _ _ (ne_eqb c 92 h); value_is = refl }
good_front (Named c value) rest h = record {
  value = Some value;
  found_is = plain_escape c rest (Some value) (apart c value 117 h refl) (apart c value 13 h refl) (apart c value 10 h refl) h;
  value_is = refl;
}
good_front LineFeed rest h = record { value = None; found_is = refl; value_is = refl }
good_front CarriageReturnLineFeed rest h = record { value = None; found_is = refl; value_is = refl }
good_front (Unicode hex) rest h = record {
  value = Some (digits_value 16 hex);
  found_is = ap digits (append_assoc hex (codes "}") rest) ∙ few_digits hex (125 ∷ rest) h.0 h.2 refl ∙ some_number hex rest h.1 h.3;
  value_is = refl;
}

no_feed : (rest : List ℕ) → slice_index rest 0 ≢ 10 → line_feed_piece rest ≡ Err (InvalidEscapeSequence 13)
no_feed [] h = refl
no_feed (c ∷ rest) h = cond-false _ _ _ (ne_eqb c 10 h)

unknown : (c : ℕ) (rest : List ℕ) → IsBad (Unknown c) rest → escape_piece (c ∷ rest) ≡ Err (InvalidEscapeSequence c)
unknown c rest h = elim (cases_eq c 13) [
  | inl e ↦ subst (λ (d : ℕ). escape_piece (d ∷ rest) ≡ Err (InvalidEscapeSequence d)) (sym e) (no_feed rest (h.3 e))
  | inr r ↦ plain_escape c rest None h.2 r h.1 h.0
]

pub bad_front : (bad : BadPiece) (later : List ℕ) → IsBad bad later → front (bad_text bad ++ later) ≡ Err (fault_of bad)
bad_front (Unknown c) later h = unknown c later h
bad_front (Unopened c) later h = cond-false _ _ _ (ne_eqb c 123 h)
bad_front Empty later h = refl
bad_front (NoDigit hex c) later h =
    ap digits (append_assoc hex (c ∷ []) later) ∙ few_digits hex (c ∷ later) h.0 h.1 h.2 ∙ cond-false _ _ _ (ne_eqb c 125 h.3)
bad_front (TooLong hex) later h = many_digits hex later h.0 h.1
bad_front (OutOfRange hex) later h =
    ap digits (append_assoc hex (codes "}") later) ∙ few_digits hex (125 ∷ later) h.0 h.2 refl ∙ no_number hex later h.1 h.3
bad_front EndsAtBackslash later h = rw h refl
bad_front EndsAtU later h = rw h refl
bad_front (EndsInBraces hex) later h = rw h.2 (few_digits hex [] h.0 h.1 refl)
