use Rattle.std.proofs.Common.{◌∙◌}
use Rattle.justfile_lines.proofs.Searches.{rest_is}
use Rattle.justfile_lines.proofs.walk.last_line.Goals as goal

pub returns-clause-line : goal.returns-clause-line
returns-clause-line c = rest_is c.args.text.now c.last_start-start.result ∙ c.last_start-start.ensures.is
