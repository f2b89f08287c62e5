use Rattle.justfile_model.proofs.Lexing.LexedLaws.{ended}
use Rattle.justfile_model.proofs.laws.eof_is_last.Goals as goal

pub returns : goal.returns
returns c = ended
