-- The names of files in the headers of diffs, as GNU patch reads them.
use Rattle.std.specs.Prelude.{ℕ, ◌+◌, ◌/◌, ◌%◌, Bool, ◌||◌, ◌&&◌, ◌==◌, nat_eq, nat_lt, List, ◌++◌, chars, codes, drop, encode_utf8, if◌then◌else◌}
use Rattle.std.specs.List.{flat_map, list_any, starts_with}

-- whether the character is a control character of ASCII, a quote or a backslash
abbrev pub is_special : ℕ → Bool
is_special c = nat_lt c 32 || c == 34 || c == 92 || c == 127

-- whether it is one of the control characters after those of ASCII
abbrev pub is_high_control : ℕ → Bool
is_high_control c = nat_lt 127 c && nat_lt c 160

-- whether a name with the character is in quotes
abbrev pub is_quoted : ℕ → Bool
is_quoted c = c == 32 || is_special c || is_high_control c

-- the last octal digit of a number
abbrev pub octal_digit : ℕ → List ℕ
octal_digit n = encode_utf8 (48 + n % 8)

-- a backslash and the three octal digits of a byte
abbrev pub octal : ℕ → List ℕ
octal b = codes "\\" ++ octal_digit (b / 64) ++ octal_digit (b / 8) ++ octal_digit b

-- a character of a name in quotes: a special one is written by its byte, a control character after those of ASCII by both of its bytes
abbrev pub escaped : ℕ → List ℕ
escaped c = if is_special c then octal c else if is_high_control c then codes "\\302" ++ octal c else encode_utf8 c

-- the name without `./` before it, unless another slash follows
abbrev pub bare : List ℕ → List ℕ
bare name = if starts_with nat_eq name (codes ".//") then name else if starts_with nat_eq name (codes "./") then drop 2 name else name

abbrev pub quoted : List ℕ → List ℕ
quoted name = if list_any is_quoted (chars name) then codes "\"" ++ flat_map escaped (chars name) ++ codes "\"" else name

abbrev pub label_of : List ℕ → List ℕ
label_of name = quoted (bare name)
