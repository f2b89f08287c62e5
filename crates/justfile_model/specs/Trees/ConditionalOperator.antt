-- The symbols of the comparison operators.
use Rattle.std.specs.Prelude.{ℕ, List, codes}
use Rattle.justfile_model.specs.declared.conditional_operator.ConditionalOperator.{ConditionalOperator}
use Rattle.justfile_model.specs.declared.conditional_operator.ConditionalOperator.TheVariants.{Equality, Inequality, RegexMatch, RegexMismatch}

abbrev pub operator_sign : ConditionalOperator → List ℕ
operator_sign Equality = codes "=="
operator_sign Inequality = codes "!="
operator_sign RegexMatch = codes "=~"
operator_sign RegexMismatch = codes "!~"
