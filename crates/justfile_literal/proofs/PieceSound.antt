-- What the parser of pieces finds is a piece or a bad piece.
use Rattle.std.proofs.Common.{◌≡◌, ◌≢◌, ℕ, ◌≤◌, false, List, [], ◌∷◌, ◌++◌, length, take, drop, Option, Some, None, Ok, Err, refl, sym, ap, subst, arith, append_assoc, codes, slice_index, nat_eq, nat_lt}
use Rattle.std.specs.Prelude.{option_to_list}
use lib.Utf8.{scalar}
use Rattle.std.specs.Str.Parse.{digits_value}
use Rattle.std.proofs.lemmas.Bool.{cond_both, eqb-true, eqb-false, ltb-true, ltb-false, ne_eqb, both_ways}
use Rattle.std.proofs.lemmas.List.{take-append-drop}
use Rattle.justfile_model.specs.LiteralTexts.Cook.{AreHex, BadPiece, CarriageReturnLineFeed, Empty, EndsAtBackslash, EndsAtU, EndsInBraces, IsBad, IsPiece, LineFeed, Named, NoDigit, OutOfRange, Piece, Plain, TooLong, Unicode, Unknown, Unopened, bad_text, fault_of, named, raw_of, value_of}
use Rattle.justfile_model.specs.LiteralTexts.EscapeFault.{EscapeFault, UnicodeEscapeRange}
use Rattle.justfile_model.specs.LiteralTexts.FirstPiece.{PieceRead, closing_brace, digits, escape_piece, hex_len, known, line_feed_piece, number, first_escaped_piece, unicode}
use Rattle.justfile_literal_parts.proofs.Digits.{hex_front, is_hex_head}

-- a piece with this value is at the front
pub record Begins (cs : List ℕ) (value : Option ℕ) (rest : List ℕ) : Type 0 where
  pub piece : Piece
  pub good : IsPiece piece
  pub text_is : raw_of piece ++ rest ≡ cs
  pub value_is : value_of piece ≡ option_to_list value

-- a bad piece with this fault is at the front
pub record Breaks (cs : List ℕ) (fault : EscapeFault) : Type 0 where
  pub bad : BadPiece
  pub later : List ℕ
  pub is_bad : IsBad bad later
  pub text_is : bad_text bad ++ later ≡ cs
  pub fault_is : fault_of bad ≡ fault

abbrev pub Means : List ℕ → PieceRead → Type 0
Means cs (Ok x) = Begins cs x.0 x.1
Means cs (Err fault) = Breaks cs fault

broken : (bad : BadPiece) (later cs : List ℕ) → IsBad bad later → bad_text bad ++ later ≡ cs → Breaks cs (fault_of bad)
broken bad later cs h e = record { bad = bad; later = later; is_bad = h; text_is = e; fault_is = refl }

number_means : (hex rest : List ℕ) → AreHex hex → length hex ≤ 6 → Means (codes "\\u{" ++ hex ++ 125 ∷ rest) (number hex rest)
number_means [] rest h le = broken Empty rest _ tt refl
number_means (x ∷ hex) rest h le =
    let same = ap (λ (l : List ℕ). codes "\\u{" ++ l) (append_assoc (x ∷ hex) (codes "}") rest) in
    rw (ne_eqb (length (x ∷ hex)) 0 (λ e. omega arith))
    (cond_both (scalar (digits_value 16 (x ∷ hex))) (Ok (Some (digits_value 16 (x ∷ hex)), rest)) (Err (UnicodeEscapeRange (x ∷ hex))) (Means (codes "\\u{" ++ (x ∷ hex) ++ 125 ∷ rest))
    (λ e. record { piece = Unicode (x ∷ hex); good = (h, omega arith, le, e); text_is = same; value_is = refl })
    (λ e. broken (OutOfRange (x ∷ hex)) rest _ (h, omega arith, le, λ s. both_ways _ e s) same))

close_means : (hex cs : List ℕ) → AreHex hex → length hex ≤ 6 → is_hex_head cs ≡ false → Means (codes "\\u{" ++ hex ++ cs) (closing_brace hex cs)
close_means hex [] h le stop = broken (EndsInBraces hex) [] _ (h, le, refl) (append_assoc (codes "\\u{") hex [])
close_means hex (c ∷ rest) h le stop =
    cond_both (nat_eq c 125) _ _ (Means (codes "\\u{" ++ hex ++ c ∷ rest))
    (λ e. subst (λ (d : ℕ). Means (codes "\\u{" ++ hex ++ d ∷ rest) (number hex rest)) (sym (eqb-true c 125 e)) (number_means hex rest h le))
    (λ e. broken (NoDigit hex c) rest _ (h, le, stop, eqb-false c 125 e) (ap (λ (l : List ℕ). codes "\\u{" ++ l) (append_assoc hex (c ∷ []) rest)))

digits_mean : (cs : List ℕ) → Means (codes "\\u{" ++ cs) (digits cs)
digits_mean cs =
    let front = hex_front 7 cs in
    let whole = take-append-drop (hex_len cs) cs in
    cond_both (nat_lt 6 (hex_len cs)) _ _ (Means (codes "\\u{" ++ cs))
    (λ e. broken (TooLong (take (hex_len cs) cs)) (drop (hex_len cs) cs) _ (front.front, omega (arith, front.bound, front.front_len, ltb-true 6 (hex_len cs) e)) (ap (λ (l : List ℕ). codes "\\u{" ++ l) whole))
    (λ e. subst (λ (l : List ℕ). Means (codes "\\u{" ++ l) (closing_brace (take (hex_len cs) cs) (drop (hex_len cs) cs))) whole
    (close_means (take (hex_len cs) cs) (drop (hex_len cs) cs) front.front (omega (arith, front.front_len, ltb-false 6 (hex_len cs) e)) (front.stop (omega (arith, ltb-false 6 (hex_len cs) e)))))

unicode_means : (cs : List ℕ) → Means (codes "\\u" ++ cs) (unicode cs)
unicode_means [] = broken EndsAtU [] _ refl refl
unicode_means (c ∷ rest) =
    cond_both (nat_eq c 123) _ _ (Means (codes "\\u" ++ c ∷ rest))
    (λ e. subst (λ (d : ℕ). Means (codes "\\u" ++ d ∷ rest) (digits rest)) (sym (eqb-true c 123 e)) (digits_mean rest))
    (λ e. broken (Unopened c) rest _ (eqb-false c 123 e) refl)

unknown_return : (cs : List ℕ) → slice_index cs 0 ≢ 10 → Breaks (92 ∷ 13 ∷ cs) (fault_of (Unknown 13))
unknown_return cs h = broken (Unknown 13) cs _ (refl, omega arith, omega arith, λ _. h) refl

line_feed_means : (cs : List ℕ) → Means (92 ∷ 13 ∷ cs) (line_feed_piece cs)
line_feed_means [] = unknown_return [] (omega arith)
line_feed_means (c ∷ rest) =
    cond_both (nat_eq c 10) _ _ (Means (92 ∷ 13 ∷ c ∷ rest))
    (λ e. record { piece = CarriageReturnLineFeed; good = tt; text_is = ap (λ (d : ℕ). 92 ∷ 13 ∷ d ∷ rest) (sym (eqb-true c 10 e)); value_is = refl })
    (λ e. unknown_return (c ∷ rest) (eqb-false c 10 e))

known_means : (c : ℕ) (rest : List ℕ) → c ≢ 117 → c ≢ 13 → c ≢ 10 → (value : Option ℕ) → named c ≡ value → Means (92 ∷ c ∷ rest) (known c value rest)
known_means c rest u r l None e = broken (Unknown c) rest _ (e, l, u, λ same. absurd (r same)) refl
known_means c rest u r l (Some value) e = record { piece = Named c value; good = e; text_is = refl; value_is = refl }

escape_means : (cs : List ℕ) → Means (92 ∷ cs) (escape_piece cs)
escape_means [] = broken EndsAtBackslash [] _ refl refl
escape_means (c ∷ rest) =
    cond_both (nat_eq c 117) _ _ (Means (92 ∷ c ∷ rest))
    (λ e. subst (λ (d : ℕ). Means (92 ∷ d ∷ rest) (unicode rest)) (sym (eqb-true c 117 e)) (unicode_means rest))
    (λ u. cond_both (nat_eq c 13) _ _ (Means (92 ∷ c ∷ rest))
    (λ e. subst (λ (d : ℕ). Means (92 ∷ d ∷ rest) (line_feed_piece rest)) (sym (eqb-true c 13 e)) (line_feed_means rest))
    (λ r. cond_both (nat_eq c 10) _ _ (Means (92 ∷ c ∷ rest))
    (λ e. record { piece = LineFeed; good = tt; text_is = ap (λ (d : ℕ). 92 ∷ d ∷ rest) (sym (eqb-true c 10 e)); value_is = refl })
    (λ l. known_means c rest (eqb-false c 117 u) (eqb-false c 13 r) (eqb-false c 10 l) (named c) refl)))

pub piece_means : (c : ℕ) (rest : List ℕ) → Means (c ∷ rest) (first_escaped_piece c rest)
piece_means c rest =
    cond_both (nat_eq c 92) _ _ (Means (c ∷ rest))
    (λ e. subst (λ (d : ℕ). Means (d ∷ rest) (escape_piece rest)) (sym (eqb-true c 92 e)) (escape_means rest))
    (λ e. record { piece = Plain c; good = eqb-false c 92 e; text_is = refl; value_is = refl })
