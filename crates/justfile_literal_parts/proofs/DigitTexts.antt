-- Hexadecimal digits at the start of a text of bytes, and their number.
use Rattle.std.proofs.Common.{zero, suc, ◌≡◌, ◌≢◌, ℕ, ◌+◌, ◌^◌, ◌<◌, ◌≤◌, true, false, List, [], ◌∷◌, ◌++◌, length, get_or, take, drop, Result, Err, IsUtf8, refl, sym, ap, ap₂, subst, ◌∙◌, cond, nat_lt, add-one, arith}
use Rattle.std.specs.Prelude.{chars, encode_utf8_all}
use Rattle.std.specs.Char.{IsScalar, is_ascii_hexdigit}
use Rattle.std.specs.Str.{IsCharBoundary, all_scalars}
use Rattle.std.specs.Str.Parse.{AllDigits, ParsesUnsigned, digits_value}
use Rattle.std.proofs.Math.Seq.{drop-cons, take-suc}
use Rattle.std.proofs.Math.Utf8.{scalar_fits}
use Rattle.std.proofs.lemmas.Bool.{and_parts, cond-false, cond-true, le-ltb, lt-ltb}
use Rattle.std.proofs.lemmas.Bool.Decides.{nat_tests}
use Rattle.std.proofs.lemmas.List.{length-take, length-take-le, take-append-drop}
use Rattle.std.proofs.lemmas.Str.{IsCharBoundary-from_drop, chars-encodes, encode_ascii, encodes-chars, scalars-chars}
use Rattle.std.proofs.lemmas.Str.Parse.{without_leading_plus_none}
use Rattle.justfile_model.specs.LiteralTexts.Cook.{AreHex}
use Rattle.justfile_model.specs.LiteralTexts.EscapeFault.{UnicodeEscapeLength}
use Rattle.justfile_model.specs.LiteralTexts.FirstPiece.{closing_brace, digits, hex_len}
use Rattle.justfile_literal_parts.proofs.Digits.{hex_front, hex_is, hex_upto, is_hex_head}

-- ---- counting

hex_more : (xs : List ℕ) (c : ℕ) → AreHex xs → is_ascii_hexdigit c ≡ true → AreHex (xs ++ c ∷ [])
hex_more [] c h e = (e, tt)
hex_more (x ∷ xs) c h e = (h.0, hex_more xs c h.1 e)

pub hex_next : (cs : List ℕ) (n c : ℕ) → n < length cs → c ≡ get_or cs n c → AreHex (take n cs) → is_ascii_hexdigit c ≡ true → AreHex (take (suc n) cs)
hex_next cs n c lt is h e = subst AreHex (sym (take-suc cs n c lt)) (hex_more (take n cs) (get_or cs n c) h (subst (λ (x : ℕ). is_ascii_hexdigit x ≡ true) is e))

pub head_at : (cs : List ℕ) (n c : ℕ) → n < length cs → c ≡ get_or cs n c → is_hex_head (drop n cs) ≡ is_ascii_hexdigit c
head_at cs n c lt is = ap is_hex_head (drop-cons cs n c lt) ∙ ap is_ascii_hexdigit (sym is)

pub hex_stops : (cs : List ℕ) (n : ℕ) → n ≤ length cs → n ≤ 7 → AreHex (take n cs) → (n < 7 → is_hex_head (drop n cs) ≡ false) → n ≡ hex_upto 7 cs
hex_stops cs n le most h stop =
    let len = length-take-le n cs le in
    sym (ap (hex_upto 7) (sym (take-append-drop n cs)) ∙ hex_is 7 (take n cs) (drop n cs) h (omega arith) (λ l. stop (omega arith)) ∙ len)

-- a run of digits ends after the characters so far, if the next one isn't a digit
pub stop_here : (cs ys : List ℕ) (n c : ℕ) → n ≡ length ys → (length ys < length cs) × (c ≡ get_or cs (length ys) c) → n ≤ 7 → AreHex (take n cs) → (n < 7 → is_ascii_hexdigit c ≡ false) → n ≡ hex_upto 7 cs
stop_here cs ys n c e t most h stop =
    let is : c ≡ get_or cs n c = rw e t.1 in
    hex_stops cs n (omega (arith, t.0)) most h (λ l. head_at cs n c (omega (arith, t.0)) is ∙ stop l)

pub go_on_here : (cs ys : List ℕ) (n c : ℕ) → n ≡ length ys → (length ys < length cs) × (c ≡ get_or cs (length ys) c) → AreHex (take n cs) → is_ascii_hexdigit c ≡ true → AreHex (take (n + 1) cs)
go_on_here cs ys n c e t h is =
    let same : c ≡ get_or cs n c = rw e t.1 in
    rw add-one (hex_next cs n c (omega (arith, t.0)) same h is)

-- ---- bytes

hex_ascii : (c : ℕ) → is_ascii_hexdigit c ≡ true → c < 128
hex_ascii c e = grind (arith, nat_tests)

-- each digit is one byte
digits_cut : (cs : List ℕ) (n : ℕ) → AreHex (take n cs) → n ≤ length cs → (take n (encode_utf8_all cs) ≡ take n cs) × (drop n (encode_utf8_all cs) ≡ encode_utf8_all (drop n cs))
digits_cut cs zero h le = (refl, refl)
digits_cut [] (suc n) h le = absurd (omega arith)
digits_cut (c ∷ cs) (suc n) h le =
    let more = digits_cut cs n h.1 (omega arith) in
    rw (encode_ascii c (hex_ascii c h.0)) (ap (λ (l : List ℕ). c ∷ l) more.0, more.1)

drop_scalars : (n : ℕ) (cs : List ℕ) → all_scalars cs ≡ true → all_scalars (drop n cs) ≡ true
drop_scalars zero cs h = h
drop_scalars (suc n) [] h = h
drop_scalars (suc n) (c ∷ cs) h = drop_scalars n cs (and_parts _ _ h).1

-- a text may be cut after the digits at its front
pub record Cut (text : List ℕ) (n : ℕ) : Type 0 where
  pub front : take n text ≡ take n (chars text)
  pub back : chars (drop n text) ≡ drop n (chars text)
  pub back_utf8 : IsUtf8 (drop n text)
  pub within : n ≤ length text
  pub boundary : IsCharBoundary text n

pub cut_is : (text : List ℕ) (n : ℕ) → IsUtf8 text → AreHex (take n (chars text)) → n ≤ length (chars text) → Cut text n
cut_is text n u h le =
    let whole = encodes-chars text u in
    let cut = digits_cut (chars text) n h le in
    let scalars = drop_scalars n (chars text) (scalars-chars text u) in
    let back : drop n text ≡ encode_utf8_all (drop n (chars text)) = ap (drop n) (sym whole) ∙ cut.1 in
    let front : take n text ≡ take n (chars text) = ap (take n) (sym whole) ∙ cut.0 in
    let within : n ≤ length text = omega (arith, ap length front, length-take-le n (chars text) le, length-take n text) in
    let utf8 : IsUtf8 (drop n text) = (drop n (chars text), (scalars, sym back)) in
    record {
      front = front;
      back = ap chars back ∙ chars-encodes (drop n (chars text)) scalars;
      back_utf8 = utf8;
      within = within;
      boundary = IsCharBoundary-from_drop text n within utf8;
    }

pub cut_digits : (text : List ℕ) (n : ℕ) → IsUtf8 text → n ≡ hex_len (chars text) → Cut text n
cut_digits text n u e =
    let front = hex_front 7 (chars text) in
    subst (Cut text) (sym e) (cut_is text (hex_len (chars text)) u front.front (omega (arith, front.front_len, length-take (hex_len (chars text)) (chars text))))

pub digits_hex : (text : List ℕ) (n : ℕ) (hex : List ℕ) → n ≡ hex_len (chars text) → Cut text n → hex ≡ take n text → AreHex hex
digits_hex text n hex e cut is = subst AreHex (sym (is ∙ cut.front)) (rw e (hex_front 7 (chars text)).front)

digits_at : (cs : List ℕ) (n : ℕ) → n ≡ hex_len cs → digits cs ≡ cond (nat_lt 6 n) (Err (UnicodeEscapeLength (take n cs))) (closing_brace (take n cs) (drop n cs))
digits_at cs n e = ap (λ (m : ℕ). cond (nat_lt 6 m) (Err (UnicodeEscapeLength (take m cs))) (closing_brace (take m cs) (drop m cs))) (sym e)

pub many : (text : List ℕ) (n : ℕ) (hex : List ℕ) → n ≡ hex_len (chars text) → Cut text n → hex ≡ take n text → 6 < n → Err (UnicodeEscapeLength hex) ≡ digits (chars text)
many text n hex e cut is lt =
    ap (λ (l : List ℕ). Err (UnicodeEscapeLength l)) (is ∙ cut.front) ∙ sym (cond-true _ _ _ (lt-ltb 6 n lt)) ∙ sym (digits_at (chars text) n e)

pub few : (text : List ℕ) (n : ℕ) (hex later : List ℕ) → n ≡ hex_len (chars text) → Cut text n → hex ≡ take n text → later ≡ drop n text → n ≤ 6 → closing_brace hex (chars later) ≡ digits (chars text)
few text n hex later e cut is rest le =
    ap₂ closing_brace (is ∙ cut.front) (ap chars rest ∙ cut.back) ∙ sym (cond-false _ _ _ (le-ltb 6 n le)) ∙ sym (digits_at (chars text) n e)

-- ---- numbers

digits_of_hex : (hex : List ℕ) → AreHex hex → AllDigits 16 hex
digits_of_hex [] h = tt
digits_of_hex (c ∷ hex) h = (grind (arith, nat_tests, h.0), digits_of_hex hex h.1)

no_plus : (hex : List ℕ) → AreHex hex → get_or hex 0 0 ≢ 43
no_plus [] h e = absurd (omega arith)
no_plus (c ∷ hex) h e = absurd (cc (subst (λ (x : ℕ). is_ascii_hexdigit x ≡ true) e h.0))

-- if the digits aren't read as a number, their number isn't that of a character
pub not_read : {E : Type 0} → (hex : List ℕ) (r : Result ℕ E) (e : E) → AreHex hex → 0 < length hex → ParsesUnsigned 32 16 hex r → r ≡ Err e → IsScalar (digits_value 16 hex) → ⊥
not_read hex r e h some p is scalar =
    let plain = without_leading_plus_none hex (no_plus hex h) in
    let fails = subst (λ (r : Result ℕ _). ParsesUnsigned 32 16 hex r) is p in
    fails (subst (λ (l : List ℕ). ((0 < length l) × AllDigits 16 l) × (digits_value 16 l < 2 ^ 32)) (sym plain) ((some, digits_of_hex hex h), scalar_fits _ scalar))
