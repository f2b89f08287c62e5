use Rattle.justfile_expression.proofs.Equalities.{delimiters_are, switches_are}
use Rattle.std.proofs.Common.{refl}
use Rattle.justfile_expression.proofs.laws.words_equal.Goals as goal

pub returns : goal.returns
returns c = record { indentations = λ i j. refl; delimiters = delimiters_are; switches = switches_are }
