use Rattle.justfile_attribute_set.specs.Places.{IsInverse}
use Rattle.justfile_attribute_set.proofs.places.invert.Given as goal

abbrev pub invariant-loop-index : goal.invariant-loop-index
invariant-loop-index g l = IsInverse l.index l.sorted l.places.items
