use Rattle.justfile_line.proofs.Equalities.{fragments_are, lines_are}
use Rattle.justfile_line.proofs.laws.lines_equal.Goals as goal

pub returns : goal.returns
returns c = record { fragments = fragments_are; lines = lines_are }
