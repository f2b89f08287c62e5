-- Where the parts of a text begin and end.
use Rattle.std.specs.Prelude.{◌≡◌, ◌⊎◌, ℕ, ◌+◌, ◌-◌, ◌<◌, List, length, slice_index}

-- A line begins here that isn't the first one.
pub record IsLineStart (text : List ℕ) (at : ℕ) : Type 0 where
  pub above : 0 < at
  pub within : at < length text
  pub feed : slice_index text (at - 1) ≡ 10

-- The text begins here, or a line does.
abbrev pub IsPartStart : List ℕ → ℕ → Type 0
IsPartStart text at = (at ≡ 0) ⊎ IsLineStart text at

-- A part with this start and size ends the text, or isn't empty and a line begins after it.
abbrev pub IsPartEnd : List ℕ → (start size : ℕ) → Type 0
IsPartEnd text start size = (start + size ≡ length text) ⊎ ((0 < size) × IsLineStart text (start + size))
