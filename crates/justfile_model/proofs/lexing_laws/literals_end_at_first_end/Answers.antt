use Rattle.justfile_model.proofs.Lexing.LiteralPartLaws.{part_law}
use Rattle.justfile_model.proofs.lexing_laws.literals_end_at_first_end.Goals as goal

pub returns : goal.returns
returns c = part_law
