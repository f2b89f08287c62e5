use Rattle.justfile_problems.specs.Errors.{IsErrorWithin}
use Rattle.justfile_problem_lines.proofs.Told.{adds}
use Rattle.justfile_problem_lines.proofs.lines.push_problem.Goals as goal

pub returns-clause-adds : goal.returns-clause-adds
returns-clause-adds c = adds c.args.cursor.now.source.now (IsErrorWithin c.args.owner) c.push_error.result c.args.problem.now c.in_ok-error.error _ _ c.in_ok-error.ensures c.push_error.ensures.adds
