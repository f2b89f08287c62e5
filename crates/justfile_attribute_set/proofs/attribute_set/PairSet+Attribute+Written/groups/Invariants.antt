use Rattle.justfile_attribute_set.proofs.Groups.{AreCopied}
use Rattle.justfile_attribute_set.proofs.attribute_set.PairSet+Attribute+Written.groups.Given as goal

abbrev pub invariant-loop-pair : goal.invariant-loop-pair
invariant-loop-pair l = AreCopied l.groups.items l.fn.self.pairs.items l.pair-index
