use Rattle.std.proofs.Common.{◌≡◌, map, take}
use Rattle.justfile_completion.specs.Candidates.{told_parameter}
use Rattle.justfile_completion.specs.Offers.{told}
use Rattle.justfile_completion.proofs.candidates.parameter_offers.Given as goal

abbrev pub invariant-loop-word : goal.invariant-loop-word
invariant-loop-word l = map told l.found.items ≡ map told_parameter (take l.word-index l.parameters)
