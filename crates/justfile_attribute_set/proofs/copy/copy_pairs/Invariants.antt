use Rattle.std.proofs.Common.{take}
use Rattle.std.specs.List.{AllZip}
use Rattle.justfile_attribute_set.specs.Copies.{IsSamePair}
use Rattle.justfile_attribute_set.proofs.copy.copy_pairs.Given as goal

abbrev pub invariant-loop-pair : goal.invariant-loop-pair
invariant-loop-pair l = AllZip IsSamePair l.copies.items (take l.pair-index l.pairs)
