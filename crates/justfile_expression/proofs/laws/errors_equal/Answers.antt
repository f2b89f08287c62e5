use Rattle.std.proofs.Common.{refl}
use Rattle.justfile_expression.proofs.Equalities.{fields_are, same_case}
use Rattle.justfile_expression.proofs.laws.errors_equal.Goals as goal

pub returns : goal.returns
returns c = record { errors = λ a b. refl; cases = same_case; fields = fields_are }
