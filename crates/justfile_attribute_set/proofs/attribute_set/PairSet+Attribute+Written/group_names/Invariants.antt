use Rattle.justfile_attribute_set.proofs.Groups.{AreNames}
use Rattle.justfile_attribute_set.proofs.attribute_set.PairSet+Attribute+Written.group_names.Given as goal

abbrev pub invariant-loop-pair : goal.invariant-loop-pair
invariant-loop-pair l = AreNames l.names.items l.fn.self.pairs.items l.pair-index
