use Rattle.justfile_survey.specs.Parts.{IsFoundBefore}
use Rattle.justfile_survey.proofs.recovery.parse_longer.Given as goal

abbrev pub invariant-loop-round : goal.invariant-loop-round
invariant-loop-round l = IsFoundBefore l.source.path.now l.source.text.now l.part.start l.found
