use Rattle.std.proofs.Common.{take}
use Rattle.std.specs.List.{AllZip}
use Rattle.justfile_findings.specs.Findings.{Reports}
use Rattle.justfile_findings.proofs.listing.plain.Given as goal

abbrev pub invariant-loop-problem : goal.invariant-loop-problem
invariant-loop-problem l = AllZip Reports (take l.problem-index l.problems) l.found.items
