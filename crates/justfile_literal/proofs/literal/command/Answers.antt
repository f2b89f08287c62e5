use Rattle.std.proofs.Common.{rules}
use Rattle.justfile_literal.proofs.literal.command.Goals as goal

pub returns-then-starts_with-clause-err : goal.returns-then-starts_with-clause-err
returns-then-starts_with-clause-err c expander = c.shebang_fault.ensures _ (search rules)
