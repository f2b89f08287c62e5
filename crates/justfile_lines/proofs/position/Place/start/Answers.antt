use Rattle.std.proofs.Common.{refl, arith}
use Rattle.justfile_lines.proofs.position.Place.start.Goals as goal

pub returns-clause-is : goal.returns-clause-is
returns-clause-is c = λ encoding text. record { within = omega arith; line_is = refl; column_is = refl }
