use Rattle.justfile_literal.proofs.LongestRun.{already}
use Rattle.justfile_literal.proofs.laws.unindented_already.Goals as goal

pub returns-clause-nothing_shared : goal.returns-clause-nothing_shared
returns-clause-nothing_shared c = already
