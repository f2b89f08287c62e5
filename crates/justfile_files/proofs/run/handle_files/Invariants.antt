use Rattle.std.proofs.Common.{◌≡◌, ◌≤◌, take}
use Rattle.justfile_files.specs.Request.{texts}
use Rattle.justfile_files.proofs.OutcomeLemmas.{AllReported}
use Rattle.justfile_files.proofs.run.handle_files.Given as goal

abbrev pub invariant-loop-name : goal.invariant-loop-name
invariant-loop-name g l =
    let F = g.F.Formatter in
    let laws = g.met.F.Formatter in
    record {
      reported : AllReported F.formats F.rejects laws.one laws.settled laws.never_both l.task g.O.Output.writes g.O.Output.loses g.E.Messages.tells
          (texts (take l.name-index l.names)) (g.D.Folder.contents l.initial.folder) (g.D.Folder.contents l.folder) l.initial.output l.output
          l.initial.errors l.errors l.status;
      small : l.status ≤ 3;
      silent : l.status ≤ 1 → l.errors ≡ l.initial.errors;
    }
