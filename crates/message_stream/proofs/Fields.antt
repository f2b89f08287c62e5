-- Digits of fields.
use Rattle.std.proofs.Common.{◌≡◌, ◌==◌, ◌≤◌, ℕ, Bool, true, false, List, [], ◌∷◌, length, get_or, refl, sym, ◌∙◌, arith}
use Rattle.std.proofs.lemmas.Bool.{both_ways, eqb-true}
use Rattle.std.proofs.lemmas.List.Sums.{AllPass-from_list_all}
use Rattle.std.specs.List.{list_all}
use Rattle.message_stream.specs.Field.{AreDigits, are_digits, is_digit}

pub never_none : (x : ℕ) (xs : List ℕ) → (length (x ∷ xs) == 0) ≡ true → ⊥
never_none x xs e = let h : length (x ∷ xs) ≡ 0 = eqb-true (length (x ∷ xs)) 0 e in omega arith

pub none_if : (digits : List ℕ) (empty : Bool) → empty ≡ (length digits == 0) → empty ≡ true → false ≡ are_digits digits
none_if [] empty e t = refl
none_if (d ∷ digits) empty e t = absurd (never_none d digits (sym e ∙ t))

pub are_if : (digits : List ℕ) (empty all : Bool) → empty ≡ (length digits == 0) → empty ≡ false → all ≡ list_all is_digit digits → all ≡ are_digits digits
are_if [] empty all e f h = absurd (both_ways empty f e)
are_if (d ∷ digits) empty all e f h = h

digit_is : (c : ℕ) → is_digit c ≡ true → (48 ≤ c) × (c ≤ 57)
digit_is c e = grind arith

all_pass : (digits : List ℕ) (are : Bool) → are ≡ are_digits digits → are ≡ true → list_all is_digit digits ≡ true
all_pass [] are e t = absurd (both_ways are e t)
all_pass (d ∷ digits) are e t = sym e ∙ t

pub digits_are : (digits : List ℕ) (are : Bool) → are ≡ are_digits digits → are ≡ true → AreDigits digits
digits_are digits are e t k d lt = digit_is (get_or digits k d) (AllPass-from_list_all is_digit digits (all_pass digits are e t) k d lt)
