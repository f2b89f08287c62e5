-- The parts of a text.
use Rattle.std.specs.Prelude.{◌≡◌, ℕ, ◌+◌, ◌-◌, ◌<◌, Bool, true, false, List, [], ◌∷◌, length, take, drop, nat_eq, nat_lt}
use Rattle.text_parts.specs.declared.part.Part.{Part}

-- A later part is read with the line feed before it: so many bytes are read before a part.
abbrev pub before : (is_first : Bool) → ℕ
before true = 0
before false = 1

-- what is read of the rest of a text for a part with this reach
abbrev pub seen : (is_first : Bool) → (reach : ℕ) → List ℕ → List ℕ
seen is_first reach rest = take (before is_first + reach) rest

-- whether the end of the text is noticed
abbrev pub sees_end : (is_first : Bool) → (reach : ℕ) → List ℕ → Bool
sees_end is_first reach rest = nat_lt (length rest) (before is_first + reach)

-- which parts are right: whether it is the first one, what was read to find it, and whether the end of the text was noticed
abbrev pub IsPart : Type 0 → Type 1
IsPart K = Bool → List ℕ → Bool → Part K → Type 0

-- The part is right for the rest of a text.
abbrev pub IsNext : {K : Type 0} → IsPart K → (is_first : Bool) → List ℕ → Part K → Type 0
IsNext is_part is_first rest part = is_part is_first (seen is_first part.reach rest) (sees_end is_first part.reach rest) part

-- The parts are those of the rest of a text, which begins with the line feed before it if they are later ones. The last part ends the text,
-- and each other one isn't empty and ends before it does.
pub data AreParts {K : Type 0} (is_part : IsPart K) : (is_first : Bool) → List ℕ → List (Part K) → Type 0 where
  last : {is_first : Bool} {rest : List ℕ} {part : Part K} → IsNext is_part is_first rest part
      → before is_first + part.size ≡ length rest
      → AreParts is_part is_first rest (part ∷ [])
  more : {is_first : Bool} {rest : List ℕ} {part : Part K} {parts : List (Part K)} → IsNext is_part is_first rest part
      → 0 < part.size
      → before is_first + part.size < length rest
      → AreParts is_part false (drop (before is_first + part.size - 1) rest) parts
      → AreParts is_part is_first rest (part ∷ parts)

-- The parts are those of a text from a place on.
abbrev pub AreFrom : {K : Type 0} → IsPart K → List ℕ → (at : ℕ) → List (Part K) → Type 0
AreFrom is_part text at parts = AreParts is_part (nat_eq at 0) (drop (at - 1) text) parts
