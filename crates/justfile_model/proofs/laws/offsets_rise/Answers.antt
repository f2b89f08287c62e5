use Rattle.justfile_model.proofs.Lexing.LexedLaws.{offsets_rise}
use Rattle.justfile_model.proofs.laws.offsets_rise.Goals as goal

pub returns : goal.returns
returns c = offsets_rise
