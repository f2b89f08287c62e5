-- Where a part of a justfile may end.
use Rattle.std.specs.Prelude.{◌≡◌, ◌⊎◌, ℕ, ◌<◌, ◌≤◌, true, List, length}
use Rattle.justfile_recovery.specs.Starts.{is_start}

-- the text ends here, or an item may begin here
abbrev pub IsStop : List ℕ → ℕ → Type 0
IsStop text at = (at ≡ length text) ⊎ (is_start text at ≡ true)

-- A part from one offset on may end here: only an empty one ends where it begins, where the text ends.
pub record IsEnd (text : List ℕ) (start end : ℕ) : Type 0 where
  pub forward : start ≤ end
  pub within : end ≤ length text
  pub later : start < length text → start < end
  pub stop : IsStop text end

-- it may end further on
pub record IsFurther (text : List ℕ) (end further : ℕ) : Type 0 where
  pub later : end < further
  pub within : further ≤ length text
  pub stop : IsStop text further
