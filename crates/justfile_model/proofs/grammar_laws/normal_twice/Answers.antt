use Rattle.justfile_model.proofs.Printed.Normal.{normal_twice, normal_literals, normal_bindings, normal_recipes, normal_printable}
use Rattle.justfile_model.proofs.grammar_laws.normal_twice.Goals as goal

pub returns : goal.returns
returns c = record { twice = normal_twice; same_literals = normal_literals; same_bindings = normal_bindings; same_recipes = normal_recipes; same_printable = normal_printable }
