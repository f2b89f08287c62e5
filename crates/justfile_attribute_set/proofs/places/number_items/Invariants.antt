use Rattle.justfile_attribute_set.specs.Places.{AreNumbered}
use Rattle.justfile_attribute_set.proofs.places.number_items.Given as goal

abbrev pub invariant-loop-index : goal.invariant-loop-index
invariant-loop-index g l = AreNumbered l.index l.items l.numbered.items
