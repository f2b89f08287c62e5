use Rattle.justfile_literal.proofs.LongestRun.{longest_run}
use Rattle.justfile_literal.proofs.laws.indentation_is_longest.Goals as goal

pub returns : goal.returns
returns c = longest_run
