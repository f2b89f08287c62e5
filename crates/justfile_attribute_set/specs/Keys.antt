-- The first components of pairs, and the items that are left in an iterator over them.
use Rattle.std.specs.Prelude.{List, map}
use Rattle.std.specs.Slice.Iter.{iter_rest}
use Rattle.justfile_attribute_set.specs.declared.keys.Keys.{Keys}

abbrev pub firsts : {K V : Type 0} → List (K × V) → List K
firsts pairs = map (λ p. p.0) pairs

abbrev pub keys_left : {K V : Type 0} → Keys K V → List K
keys_left it = firsts (iter_rest it.pairs)
