-- The field of a header that names the number of bytes of the body.
use Rattle.std.specs.Prelude.{ℕ, ◌+◌, ◌-◌, ◌*◌, ◌==◌, ◌≤◌, ◌&&◌, ◌||◌, not, nat_le, if◌then◌else◌, min, All, Bool, false, List, [], ◌∷◌, take, drop, length, codes, Option, None, Some}
use Rattle.std.specs.Char.{is_ascii_whitespace}
use Rattle.std.specs.List.{fold, list_all, prefix_len, suffix_len}
use Rattle.std.specs.Str.{bytes_eq, str_eq_ignore_ascii_case}
use Rattle.message_stream.specs.declared.field.TheConstants.{MOST}

-- a line that ends a header
abbrev pub ends_header : List ℕ → Bool
ends_header line = bytes_eq line (codes "\r\n") || bytes_eq line (codes "\n")

abbrev pub isnt : (byte c : ℕ) → Bool
isnt byte c = not (c == byte)

abbrev pub is_digit : ℕ → Bool
is_digit c = nat_le 48 c && nat_le c 57

-- what stands after the last byte that is this one: all, if there is none
abbrev pub after_last : (byte : ℕ) → List ℕ → List ℕ
after_last byte text = drop (length text - suffix_len (isnt byte) text) text

-- what stands before the last colon of a line, and what after it
abbrev pub name_in : List ℕ → List ℕ
name_in line = take (length line - suffix_len (isnt 58) line - 1) line

abbrev pub value_in : List ℕ → List ℕ
value_in line = after_last 58 line

-- A name without a body that was left before it, since its message's header named no length, or one too short: that ends with a brace.
abbrev pub own_name : List ℕ → List ℕ
own_name name = after_last 125 name

abbrev pub is_length_name : List ℕ → Bool
is_length_name name = str_eq_ignore_ascii_case name (codes "content-length")

-- a value without the blanks before it and after it
abbrev pub without_front : List ℕ → List ℕ
without_front value = drop (prefix_len is_ascii_whitespace value) value

abbrev pub trimmed : List ℕ → List ℕ
trimmed value = take (length (without_front value) - suffix_len is_ascii_whitespace (without_front value)) (without_front value)

-- one or more digits
abbrev pub are_digits : List ℕ → Bool
are_digits [] = false
are_digits (digit ∷ digits) = list_all is_digit (digit ∷ digits)

abbrev pub AreDigits : List ℕ → Type 0
AreDigits digits = All (λ digit. (48 ≤ digit) × (digit ≤ 57)) digits

-- the number that digits write, or the greatest one that is told from greater ones
abbrev pub number : List ℕ → ℕ
number digits = fold (λ n digit. min (n * 10 + (digit - 48)) MOST) 0 digits

abbrev pub number_of : List ℕ → Option ℕ
number_of digits = if are_digits digits then Some (number digits) else None

-- The length that a line names: the name is "Content-Length" in any case, and the value is digits among blanks.
abbrev pub length_in : List ℕ → Option ℕ
length_in line = if is_length_name (own_name (name_in line)) then number_of (trimmed (value_in line)) else None
