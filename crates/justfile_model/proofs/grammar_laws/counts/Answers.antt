use Rattle.justfile_model.proofs.Readers.Counting.{file_numbers, items_bindings, items_constants, items_recipes}
use Rattle.justfile_model.proofs.grammar_laws.counts.Goals as goal

pub returns : goal.returns
returns c = record { whole = file_numbers; bindings = items_bindings; recipes = items_recipes; constants = items_constants }
