-- Decimal numbers.
use Rattle.std.specs.Prelude.{◌≡◌, ◌≢◌, ◌<◌, ◌^◌, ℕ, List, [], ◌∷◌}
use Rattle.std.specs.Str.Parse.{IsNumeral, digits_value}

-- The text is one or more decimal digits that write this number, which fits 64 bits. Leading zeros are allowed.
pub record IsNumberText (text : List ℕ) (n : ℕ) : Type 0 where
  pub digits : IsNumeral 10 text
  pub value : n ≡ digits_value 10 text
  pub fits : digits_value 10 text < 2 ^ 64

abbrev pub dot : ℕ
dot = 46

-- No byte of the text is a dot.
abbrev pub HasNoDot : List ℕ → Type 0
HasNoDot [] = Unit {0}
HasNoDot (b ∷ bs) = (b ≢ dot) × HasNoDot bs
