use Rattle.std.proofs.Common.{take}
use Rattle.justfile_files.specs.Found.{LeadTo}
use Rattle.justfile_files.specs.Request.{texts}
use Rattle.justfile_files.proofs.found.find_files.Given as goal

abbrev pub invariant-loop-name : goal.invariant-loop-name
invariant-loop-name g l = LeadTo g.D.Folder.lists l.folder (texts (take l.name-index l.names)) (texts l.found.items)
