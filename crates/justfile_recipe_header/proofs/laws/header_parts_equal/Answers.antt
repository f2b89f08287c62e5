use Rattle.std.proofs.Common.{refl}
use Rattle.justfile_recipe_header.proofs.laws.header_parts_equal.Goals as goal

pub returns : goal.returns
returns c = record { parameters = λ p q. refl; arguments = λ a b. refl; dependencies = λ d e. refl }
