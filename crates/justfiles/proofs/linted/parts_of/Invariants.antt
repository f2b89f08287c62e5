use Rattle.std.proofs.Common.{take}
use Rattle.std.specs.List.{AllZip}
use Rattle.justfile_files.specs.Sources.{sources}
use Rattle.justfiles.specs.Linted.{IsPart}
use Rattle.justfiles.proofs.linted.parts_of.Given as goal

abbrev pub invariant-loop-file : goal.invariant-loop-file
invariant-loop-file g l = AllZip (IsPart g.F.Folders.has) (sources (take l.file-index l.files)) l.parts.items
