use Rattle.justfile_ast.proofs.Numbered.{same_bindings, same_recipes}
use Rattle.justfile_ast.proofs.laws.same_numbers.Goals as goal

pub returns-clause-of_bindings : goal.returns-clause-of_bindings
returns-clause-of_bindings c = same_bindings

pub returns-clause-of_recipes : goal.returns-clause-of_recipes
returns-clause-of_recipes c = same_recipes
