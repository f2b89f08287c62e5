use Rattle.justfile_files.specs.Folder.{KeepsFiles}
use Rattle.justfile_files.specs.Sources.{Extends, sources}
use Rattle.justfile_files.proofs.sources.read_all.Given as goal

abbrev pub invariant-loop-index : goal.invariant-loop-index
invariant-loop-index g l = record {
  kept : KeepsFiles (g.D.Folder.contents l.initial.folder) (g.D.Folder.contents l.folder);
  read : Extends g.L.Linter.leads (g.D.Folder.contents l.initial.folder) (sources l.initial.files.items) (sources l.files.items);
}
