-- Which parts of an old text are kept.
use Rattle.std.specs.Prelude.{◌≡◌, ℕ, ◌+◌, ◌<◌, ◌≤◌, true, List, [], ◌∷◌, ◌++◌, Option, Some, None, take, drop}
use Rattle.text_parts.specs.Parts.{AreFrom, AreParts, IsPart}
use Rattle.text_parts.specs.Places.{IsLineStart, IsPartStart}
use Rattle.text_parts.specs.declared.after.Front.{Front}
use Rattle.text_parts.specs.declared.part.Part.{Part}

-- A part with this start isn't empty, ends where a line of the text begins, and was found in what both texts begin with.
pub record IsKeptTo {K : Type 0} (text : List ℕ) (start front : ℕ) (part : Part K) (end : ℕ) : Type 0 where
  pub some : 0 < part.size
  pub read : start + part.reach ≤ front
  pub end_is : end ≡ start + part.size
  pub line : IsLineStart text end

-- With the parts of the text from a place on, these are parts of the whole text.
pub record IsBegun {K : Type 0} (is_part : IsPart K) (text : List ℕ) (done : List (Part K)) (at : ℕ) : Type 0 where
  pub start : IsPartStart text at
  pub fits : (parts : List (Part K)) → AreFrom is_part text at parts → AreFrom is_part text 0 (done ++ parts)

-- No parts are left, or they are those of the text from a place on.
abbrev pub AreLeft : {K : Type 0} → IsPart K → List ℕ → ℕ → List (Part K) → Type 0
AreLeft is_part text at [] = Unit {0}
AreLeft is_part text at (part ∷ parts) = AreFrom is_part text at (part ∷ parts)

-- The first parts are those of the text up to an offset, and the others are those of the old text from there on.
pub record IsFront {K : Type 0} (is_part : IsPart K) (old_text text : List ℕ) (parts : List (Part K)) (front : Front) : Type 0 where
  pub begun : IsBegun is_part text (take front.count parts) front.end
  pub left : AreLeft is_part old_text front.end (drop front.count parts)

-- The first parts are those of the text, or all are.
abbrev pub IsFrontOrAll : {K : Type 0} → IsPart K → (old_text text : List ℕ) → List (Part K) → Option Front → Type 0
IsFrontOrAll is_part old_text text parts None = AreParts is_part true text parts
IsFrontOrAll is_part old_text text parts (Some front) = IsFront is_part old_text text parts front

-- With the others after them these are the parts of the text. Or they are those up to an offset, and the others those of the old text from there on.
abbrev pub IsJoined : {K : Type 0} → IsPart K → (old_text text : List ℕ) → (done others : List (Part K)) → Option ℕ → Type 0
IsJoined is_part old_text text done others None = AreParts is_part true text (done ++ others)
IsJoined is_part old_text text done others (Some at) = IsBegun is_part text done at × AreLeft is_part old_text at others
