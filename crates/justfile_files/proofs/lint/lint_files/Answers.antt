use Rattle.std.proofs.Common.{◌∙◌, arith}
use Rattle.justfile_files.specs.Lint.{Finds, Rejects}
use Rattle.justfile_files.proofs.LintLemmas.{all_judged, one_judged}
use Rattle.justfile_files.proofs.lint.lint_files.Goals as goal

pub loop-name-preserved : goal.loop-name-preserved
loop-name-preserved g c =
    let before = c.loop-name.invariant in
    let next = c.lint_file-next.ensures in
    record {
      kept = λ name. next.kept name ∙ before.kept name;
      judged =
          one_judged (Finds g.L.Linter.leads g.L.Linter.finds) (Rejects g.L.Linter.leads g.L.Linter.rejects) g.O.Output.writes g.O.Output.loses g.E.Messages.tells (g.D.Folder.contents c.args.folder.now) _
          c.args.names.now c.loop-name.name-index c.name-item.result c.as_str-name.result.now c.loop-name-test.true c.name-item.is c.as_str-name.ensures.value
          before.kept before.judged next.judged c.max-status.ensures;
      silent = λ small. next.silent (omega (arith, small, c.max-status.ensures)) ∙ before.silent (omega (arith, small, c.max-status.ensures));
    }

pub returns-clause-judged : goal.returns-clause-judged
returns-clause-judged g c =
    all_judged (Finds g.L.Linter.leads g.L.Linter.finds) (Rejects g.L.Linter.leads g.L.Linter.rejects) g.O.Output.writes g.O.Output.loses g.E.Messages.tells (g.D.Folder.contents c.args.folder.now)
    c.args.names.now c.loop-name.name-index c.loop-name-test.false c.loop-name.invariant.judged
