-- Copies of texts and of optional values.
use Rattle.std.specs.Prelude.{◌≡◌, Option, None, Some, String, string_bytes}
use Rattle.std.specs.Global.{Global}

-- a copy of a text
abbrev pub IsSameText : (copy original : String Global) → Type 0
IsSameText copy original = string_bytes copy ≡ string_bytes original

-- a copy of an optional value
abbrev pub IsSameIfPresent : {X : Type 0} → (X → X → Type 0) → (copy original : Option X) → Type 0
IsSameIfPresent R None None = Unit {0}
IsSameIfPresent R (Some copy) (Some original) = R copy original
IsSameIfPresent R _ _ = ⊥
