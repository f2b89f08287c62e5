-- What two texts have in common.
use Rattle.std.specs.Prelude.{◌≡◌, ℕ, ◌-◌, ◌<◌, ◌≤◌, List, length, take, drop}
use Rattle.text_parts.specs.declared.shared.Shared.{Shared}

-- The texts begin with so many same bytes, and are the same from two offsets on.
pub record IsShared (old new : List ℕ) (shared : Shared) : Type 0 where
  pub front_in_old : shared.front ≤ length old
  pub front_in_new : shared.front ≤ length new
  pub front : take shared.front old ≡ take shared.front new
  pub end : drop shared.old_end old ≡ drop shared.new_end new

-- The offsets are as far behind those from which on the texts are the same, and not at these.
pub record IsSameEnd (shared : Shared) (from at : ℕ) : Type 0 where
  pub in_old : shared.old_end < from
  pub in_new : shared.new_end < at
  pub as_far : from - shared.old_end ≡ at - shared.new_end
