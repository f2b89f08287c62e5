use Rattle.justfile_model.proofs.Lexing.BlankLineLaws.{close_law, dedent_law}
use Rattle.justfile_model.proofs.lexing_laws.levels_close_before_blank_lines.Goals as goal

pub returns : goal.returns
returns c = record { one = dedent_law; all = close_law }
