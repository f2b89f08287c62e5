use Rattle.std.proofs.Common.{◌∙◌, ap, unwrap_or}
use Rattle.justfile_files.specs.Lint.{Finds, Rejects}
use Rattle.justfile_files.proofs.LintLemmas.{failure_judged}
use Rattle.justfile_files.proofs.lint.lint_file.Goals as goal

pub returns-in-Err-clause-judged : goal.returns-in-Err-clause-judged
returns-in-Err-clause-judged g c =
    let told = c.report.ensures.told in
    failure_judged (Finds g.L.Linter.leads g.L.Linter.finds) (Rejects g.L.Linter.leads g.L.Linter.rejects) g.O.Output.writes g.O.Output.loses g.E.Messages.tells (g.D.Folder.contents c.args.folder.now) c.args.name.now
    c.in-Err.failure told.0 c.in-Err.ensures.err told.1 told.2 _ (c.unwrap_or.ensures ∙ ap (λ o. unwrap_or o 3) c.report.ensures.status)
