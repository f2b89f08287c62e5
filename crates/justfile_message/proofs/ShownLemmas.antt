-- Numbers padded with zeros.
use Rattle.std.proofs.Common.{◌≡◌, ℕ, true, false, List, [], ◌++◌, ◌^◌, ◌-◌, length, replicate, Option, Some}
use Rattle.std.specs.Option.{option_map}
use Rattle.std.specs.Fmt.{char_count, digits, format_spec, padded_integral}
use Rattle.std.proofs.lemmas.List.{append-nil}
use Rattle.std.proofs.Math.Nat.{sub-zero}
use Rattle.justfile_message.specs.Shown.{four_digits}

zeros_before : (numeral : List ℕ) → padded_integral (format_spec 32 0 4 4 (2 ^ 64 - 1)) false [] numeral ≡ replicate (4 - length numeral) 48 ++ numeral
unfolding padded_integral char_count
zeros_before numeral = rw (sub-zero (4 - length numeral), sub-zero (4 - length numeral), append-nil numeral)

-- upper-case hexadecimal digits, written with zeros up to four
pub written_digits : (text : Option (List ℕ)) (number : ℕ) → text ≡ Some (digits 16 true number)
    → option_map (padded_integral (format_spec 32 0 4 4 (2 ^ 64 - 1)) false []) text ≡ Some (four_digits number)
written_digits text number e = rw (e, zeros_before)
