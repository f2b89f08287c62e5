-- The contents of a set of pairs.
use Rattle.std.specs.Prelude.{List}
use Rattle.justfile_attribute_set.specs.Keys.{firsts}
use Rattle.justfile_attribute_set.specs.declared.pair_set.ContentOrder.{Ghosts}
use Rattle.justfile_attribute_set.specs.declared.pair_set.PairSet.{PairSet}

-- the first components of its pairs, in order
abbrev pub keys_of : {K V : Type 0} {order : Ghosts K} → PairSet K V order → List K
keys_of set = firsts set.pairs.items
