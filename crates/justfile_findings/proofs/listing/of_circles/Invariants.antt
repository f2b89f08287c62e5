use Rattle.std.proofs.Common.{take}
use Rattle.std.specs.List.{AllZip}
use Rattle.justfile_findings.specs.Findings.{TellsCircle}
use Rattle.justfile_findings.proofs.listing.of_circles.Given as goal

abbrev pub invariant-loop-circle : goal.invariant-loop-circle
invariant-loop-circle l = AllZip TellsCircle (take l.circle-index l.circles) l.found.items
