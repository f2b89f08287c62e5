-- Numbers in attributes, and the results of `parse` for their texts.
use Rattle.std.proofs.Common.{◌≡◌, ◌∙◌, ℕ, ◌<◌, ◌^◌, ◌==◌, nat_lt, List, [], ◌∷◌, Bool, true, false, not, ◌&&◌, ◌||◌, length, Some, Result, Ok, Err, refl, sym, ap, subst, arith}
use Rattle.std.specs.Char.{digit_value, is_ascii_digit}
use Rattle.std.specs.List.{list_all, slice_index}
use Rattle.std.specs.Result.{result_ok}
use Rattle.std.specs.Str.{all_ascii_digits}
use Rattle.std.specs.Str.Parse.{AllDigits, IsNumeral, ParsesUnsigned, digits_value, without_leading_plus}
use Rattle.std.specs.Int.{IsInRange}
use Rattle.std.proofs.lemmas.Bool.{and_parts, lt-ltb}
use Rattle.std.proofs.lemmas.Bool.Decides.{nat_tests}
use Rattle.std.proofs.lemmas.Str.{digit_value_digit}
use Rattle.justfile_model.specs.Meanings.Meaning.{count_of, is_count}

-- a byte is an ASCII digit
abbrev pub is_digit_byte : ℕ → Bool
is_digit_byte c = not (nat_lt c 48) && nat_lt c 58

digit_of : (c : ℕ) → is_digit_byte c ≡ true → digit_value c < 10
digit_of c e =
    let range : IsInRange 48 57 c = (grind (arith, nat_tests), grind (arith, nat_tests)) in
    omega (arith, digit_value_digit c range, range)

pub all_digits : (cs : List ℕ) → list_all is_digit_byte cs ≡ true → AllDigits 10 cs
all_digits [] e = tt
all_digits (c ∷ cs) e = let parts = and_parts (is_digit_byte c) (list_all is_digit_byte cs) e in (digit_of c parts.0, all_digits cs parts.1)

-- a digit, and no 0
not_zero : (b : ℕ) → (not (nat_lt b 49) && nat_lt b 58) ≡ true → is_digit_byte b ≡ true
not_zero b e = grind (arith, nat_tests)

pub digits_of_count : (text : List ℕ) → is_count text ≡ true → (0 < length text) × (list_all is_digit_byte text ≡ true)
digits_of_count [] e = cc
digits_of_count (b ∷ []) e = (omega arith, rw e refl)
digits_of_count (b ∷ c ∷ cs) e =
    let parts = and_parts (not (nat_lt b 49) && nat_lt b 58) (list_all is_digit_byte (c ∷ cs)) e in
    (omega arith, rw (not_zero b parts.0) parts.1)

-- a text of digits doesn't begin with a sign
unsigned : (text : List ℕ) → list_all is_digit_byte text ≡ true → without_leading_plus text ≡ text
unsigned [] e = refl
unsigned (b ∷ bs) e =
    let first = (and_parts (is_digit_byte b) (list_all is_digit_byte bs) e).0 in
    let apart : (b == 43) ≡ false = grind (arith, nat_tests) in
    rw apart refl

-- it is a numeral, with no sign
pub count_numeral : (text : List ℕ) → is_count text ≡ true → IsNumeral 10 text × (without_leading_plus text ≡ text)
count_numeral text e =
    let d = digits_of_count text e in
    ((d.0, all_digits text d.1), unsigned text d.1)

not_below : (n m : ℕ) → (n < m → ⊥) → nat_lt n m ≡ false
not_below n m h = grind (arith, nat_tests, h)

-- `parse` reads it where it is below 2^64
pub count_read : {E : Type 0} (text : List ℕ) (r : Result ℕ E) → is_count text ≡ true → ParsesUnsigned 64 10 text r → count_of text ≡ result_ok r
count_read text (Ok n) e h =
    let numeral = count_numeral text e in
    let below : digits_value 10 text < 2 ^ 64 = subst (λ t. digits_value 10 t < 2 ^ 64) numeral.1 h.0.1 in
    rw (e, lt-ltb (digits_value 10 text) (2 ^ 64) below) (ap Some (ap (digits_value 10) (sym numeral.1) ∙ sym h.1))
count_read text (Err x) e h =
    let numeral = count_numeral text e in
    let whole = λ (below : digits_value 10 text < 2 ^ 64). h (subst (λ t. IsNumeral 10 t × (digits_value 10 t < 2 ^ 64)) (sym numeral.1) (numeral.0, below)) in
    rw (e, not_below (digits_value 10 text) (2 ^ 64) whole) refl

-- a count has only digits, and more than one of them only if the first isn't 0
pub is_count_by : (text : List ℕ)
    → is_count text ≡ (not (length text == 0) && list_all is_digit_byte text && (length text == 1 || not (slice_index text 0 == 48)))
is_count_by [] = refl
is_count_by (b ∷ []) = grind (arith, nat_tests)
is_count_by (b ∷ c ∷ cs) = grind (arith, nat_tests)

-- it is what std calls an ASCII digit
pub digit_is_ascii : (c : ℕ) → is_digit_byte c ≡ is_ascii_digit c
digit_is_ascii c = grind (arith, nat_tests)

pub digits_are_ascii : (text : List ℕ) → list_all is_digit_byte text ≡ all_ascii_digits text
digits_are_ascii [] = refl
digits_are_ascii (c ∷ cs) = λ i. digit_is_ascii c i && digits_are_ascii cs i
