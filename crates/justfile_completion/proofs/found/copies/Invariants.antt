use Rattle.std.proofs.Common.{◌≡◌, map, take}
use Rattle.justfile_completion.specs.Completions.{told_of}
use Rattle.justfile_completion.specs.Offers.{told}
use Rattle.justfile_completion.proofs.found.copies.Given as goal

abbrev pub invariant-loop-offer : goal.invariant-loop-offer
invariant-loop-offer l = map told_of l.found.items ≡ map told (take l.offer-index l.offers)
