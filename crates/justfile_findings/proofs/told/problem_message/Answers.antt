use Rattle.std.specs.Option.{option_copied}
use Rattle.justfile_findings.specs.Suggestions.{question}
use Rattle.justfile_findings.proofs.Asked.{of_problem}
use Rattle.justfile_findings.proofs.told.problem_message.Goals as goal

pub returns : goal.returns
returns c = of_problem c.message.result c.args.problem.now c.in_ok-error.error (question (option_copied c.args.suggestion)) c.in_ok-error.ensures c.message.ensures
