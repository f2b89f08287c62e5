use Rattle.std.proofs.Common.{◌-◌, length}
use Rattle.justfile_survey.specs.Parts.{IsFoundBefore}
use Rattle.justfile_survey.proofs.recovery.go_through.Given as goal

abbrev pub invariant-loop-at : goal.invariant-loop-at
invariant-loop-at l = IsFoundBefore l.source.path.now l.source.text.now l.at l.found

abbrev pub decreases-loop-at : goal.decreases-loop-at
decreases-loop-at l = length l.source.text.now - l.at
