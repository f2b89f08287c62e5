-- Too many arguments.
use Rattle.std.proofs.Common.{◌≡◌, ℕ, ◌^◌, ◌<◌, nat_lt, Option, Some, None, sym, ap, arith}
use Rattle.std.proofs.lemmas.Bool.{le-ltb}
use Rattle.justfile_model.specs.Meanings.AttributeRules.{has_more}
use Rattle.justfile_attribute_rules.specs.RuleErrors.{IsMost}

-- more arguments than the greatest number, if there is a limit
pub more_is : (most : Option ℕ) (max found : ℕ) → IsMost most max → found < 2 ^ 64 → has_more found most ≡ nat_lt max found
more_is None max found e h = sym (le-ltb max found (omega (arith, e, h)))
more_is (Some most) max found e h = ap (λ m. nat_lt m found) (sym e)
