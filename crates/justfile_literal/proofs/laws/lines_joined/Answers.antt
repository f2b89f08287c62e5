use Rattle.justfile_literal_parts.proofs.TextLines.{lines_whole}
use Rattle.justfile_literal.proofs.laws.lines_joined.Goals as goal

pub returns : goal.returns
returns c = lines_whole
