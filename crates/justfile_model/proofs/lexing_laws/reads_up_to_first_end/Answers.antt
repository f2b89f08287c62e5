use Rattle.justfile_model.proofs.Lexing.PieceLaws.{inside_law, no_end_law}
use Rattle.justfile_model.proofs.lexing_laws.reads_up_to_first_end.Goals as goal

pub returns : goal.returns
returns c = record { end = inside_law; no_end = no_end_law }
