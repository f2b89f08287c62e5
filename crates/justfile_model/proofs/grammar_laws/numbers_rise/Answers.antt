use Rattle.justfile_model.proofs.Lists.Numbers.{rise}
use Rattle.justfile_model.proofs.grammar_laws.numbers_rise.Goals as goal

pub returns : goal.returns
returns c = rise
