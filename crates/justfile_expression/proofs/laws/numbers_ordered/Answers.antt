use Rattle.std.proofs.Common.{refl}
use Rattle.justfile_numbers.specs.contracts.number.NumberOrd.TheImpl.Laws.{total-law, matches_eq-law}
use Rattle.justfile_expression.proofs.laws.numbers_ordered.Goals as goal

pub returns : goal.returns
returns c = record { is = λ x y. refl; total = total-law; ties = matches_eq-law }
