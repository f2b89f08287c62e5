-- Recursion on a size: a call at a size that isn't smaller gives `stop`.
use Rattle.std.specs.Prelude.{ℕ, zero, suc, cond, nat_lt}

module _ {X : Type 0} {R : X → Type 0} (size : X → ℕ) (stop : (x : X) → R x) (rule : ((y : X) → R y) → (x : X) → R x) where
  unfoldable pub below : X → ((y : X) → R y) → (y : X) → R y
  below x f y = cond (nat_lt (size y) (size x)) (f y) (stop y)

  -- at most this many nested calls
  unfoldable pub turns : ℕ → (x : X) → R x
  turns zero x = stop x
  turns (suc n) x = rule (below x (turns n)) x

  unfoldable pub recursive : (x : X) → R x
  recursive x = turns (suc (size x)) x
