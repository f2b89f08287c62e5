use Rattle.justfile_model.proofs.Lexing.LexedLaws.{joined}
use Rattle.justfile_model.proofs.laws.tiling.Goals as goal

pub returns : goal.returns
returns c = joined
