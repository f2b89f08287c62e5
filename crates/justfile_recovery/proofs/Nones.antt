-- Offsets among which an item may begin at none.
use Rattle.std.proofs.Common.{◌≡◌, ◌⊎◌, inl, inr, ℕ, ◌+◌, ◌<◌, ◌≤◌, false, List, arith, subst}
use Rattle.std.proofs.lemmas.Bool.{cases_lt}
use Rattle.justfile_recovery.specs.Starts.{HasNone, is_start}

-- there is none among none
pub nowhere : (text : List ℕ) (from : ℕ) → HasNone text from from
nowhere text from at l u = absurd (omega (arith, l, u))

-- one more offset, at which none begins
pub longer : (text : List ℕ) (from to : ℕ) → HasNone text from to → is_start text to ≡ false → HasNone text from (to + 1)
longer text from to none here at l u = by (cases_lt at to)
  where
    by : (at < to) ⊎ (to ≤ at) → is_start text at ≡ false
    by (inl below) = none at l below
    by (inr above) = let same : to ≡ at = omega (arith, above, u) in subst (λ k. is_start text k ≡ false) same here
