use Rattle.std.proofs.Common.{take}
use Rattle.std.specs.List.{AllZip, flat_map}
use Rattle.justfile_findings.specs.Fixes.{Does, fixes_for}
use Rattle.justfile_findings.proofs.fixing.fixes_of.Given as goal

abbrev pub invariant-loop-problem : goal.invariant-loop-problem
invariant-loop-problem l = AllZip Does (flat_map (fixes_for l.definitions l.uses) (take l.problem-index l.problems)) l.found.items
