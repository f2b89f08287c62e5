use Rattle.std.proofs.Common.{◌≡◌, ◌≤◌, take}
use Rattle.justfile_files.specs.Folder.{KeepsFiles}
use Rattle.justfile_files.specs.Lint.{AreJudged, Finds, Rejects}
use Rattle.justfile_files.specs.Request.{texts}
use Rattle.justfile_files.proofs.lint.lint_files.Given as goal

abbrev pub invariant-loop-name : goal.invariant-loop-name
invariant-loop-name g l = record {
  kept : KeepsFiles (g.D.Folder.contents l.initial.folder) (g.D.Folder.contents l.folder);
  judged : AreJudged (Finds g.L.Linter.leads g.L.Linter.finds) (Rejects g.L.Linter.leads g.L.Linter.rejects) (g.D.Folder.contents l.initial.folder) g.O.Output.writes g.O.Output.loses g.E.Messages.tells
      (texts (take l.name-index l.names)) l.initial.output l.output l.initial.errors l.errors l.status;
  silent : l.status ≤ 1 → l.errors ≡ l.initial.errors;
}
