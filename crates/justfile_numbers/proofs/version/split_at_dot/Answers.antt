use Rattle.std.proofs.Common.{rules}
use Rattle.justfile_numbers.proofs.VersionLemmas.{no_dot_first}
use Rattle.justfile_numbers.proofs.version.split_at_dot.Goals as goal

pub returns-clause-first : goal.returns-clause-first
returns-clause-first c = no_dot_first c.args.text.now c.split_once.result (search rules)
