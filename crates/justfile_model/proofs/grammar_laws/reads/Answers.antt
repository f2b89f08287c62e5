use Rattle.justfile_model.proofs.Sound.Agreement.{read_derives, reached, sound, complete, deep, free, due, refused, one_tree}
use Rattle.justfile_model.proofs.grammar_laws.reads.Goals as goal

pub returns : goal.returns
returns c = record { derives = read_derives; read = reached; sound = sound; complete = complete; past_limit = deep; without_limit = free; error_past_limit = due; error_without_limit = refused; one = one_tree }
