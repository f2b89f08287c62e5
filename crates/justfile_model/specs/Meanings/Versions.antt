-- The versions that a file can require.
use Rattle.std.specs.Prelude.{ℕ, ◌^◌, Bool, ◌&&◌, ◌||◌, not, ◌==◌, nat_lt, nat_eq, List, [], ◌∷◌, length, Option, Some, None, if◌then◌else◌}
use Rattle.std.specs.List.{list_all}
use Rattle.std.specs.Str.Parse.{digits_value}
use Rattle.justfile_numbers.specs.declared.version.Version.{Version}
use Rattle.justfile_model.specs.Grammars.Conditions.{VersionNumbers}
use Rattle.justfile_vocabulary.specs.ByteNames as byte

abbrev pub version_numbers : Version → VersionNumbers
version_numbers v = record { major = v.major; minor = v.minor; patch = v.patch }

-- a byte added to the first text
abbrev pub byte_before : ℕ → List (List ℕ) → List (List ℕ)
byte_before b [] = (b ∷ []) ∷ []
byte_before b (part ∷ parts) = if b == byte.dot then [] ∷ part ∷ parts else (b ∷ part) ∷ parts

-- the texts between the dots
abbrev pub between_dots : List ℕ → List (List ℕ)
between_dots [] = [] ∷ []
between_dots (b ∷ bs) = byte_before b (between_dots bs)

-- one or more decimal digits that write a number below 2^64, where leading zeros are allowed
abbrev pub is_number : List ℕ → Bool
is_number digits = not (length digits == 0) && list_all (λ c. not (nat_lt c byte.digit_zero) && nat_lt c byte.after_nine) digits && nat_lt (digits_value 10 digits) (2 ^ 64)

abbrev pub version_in : List (List ℕ) → Option VersionNumbers
version_in (major ∷ minor ∷ patch ∷ []) =
    if is_number major && is_number minor && is_number patch
    then Some (record { major = digits_value 10 major; minor = digits_value 10 minor; patch = digits_value 10 patch })
    else None
version_in parts = None

-- the version that the text writes: three numbers separated by dots
abbrev pub version_of : List ℕ → Option VersionNumbers
version_of text = version_in (between_dots text)

-- the first version is later than the second
abbrev pub is_above : VersionNumbers → VersionNumbers → Bool
is_above v w =
    nat_lt w.major v.major
    || nat_eq w.major v.major && (nat_lt w.minor v.minor || nat_eq w.minor v.minor && nat_lt w.patch v.patch)
