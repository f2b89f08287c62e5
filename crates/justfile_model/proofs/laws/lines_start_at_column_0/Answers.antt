use Rattle.justfile_model.proofs.Lexing.ColumnLaws.{end_column, line_starts}
use Rattle.justfile_model.proofs.laws.lines_start_at_column_0.Goals as goal

pub returns : goal.returns
returns c = record { text_left = λ text e u. line_starts text u e; no_text_left = end_column }
