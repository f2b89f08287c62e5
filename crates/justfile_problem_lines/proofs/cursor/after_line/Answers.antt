use Rattle.std.proofs.Common.{arith}
use Rattle.justfile_problem_lines.proofs.Rests.{after_feed, no_feed}
use Rattle.justfile_problem_lines.proofs.cursor.after_line.Goals as goal

pub returns-in-Some-clause-lines : goal.returns-in-Some-clause-lines
returns-in-Some-clause-lines c = let cut = c.in-Some.ensures.byte (omega arith) (λ w o h. h) in after_feed c.args.text.now _ cut.2 cut.1

pub returns-in-None-clause-lines : goal.returns-in-None-clause-lines
returns-in-None-clause-lines c = no_feed c.args.text.now (c.in-None.ensures.byte (omega arith) (λ w o h. h))
