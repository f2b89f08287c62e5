-- The items that are left in an iterator over the first components of pairs, by value.
use Rattle.std.specs.Prelude.{List}
use Rattle.std.specs.Vec.Iter.{into_iter_items}
use Rattle.justfile_attribute_set.specs.Keys.{firsts}
use Rattle.justfile_attribute_set.specs.declared.keys.IntoKeys.{IntoKeys}

abbrev pub owned_left : {K V : Type 0} → IntoKeys K V → List K
owned_left it = firsts (into_iter_items it.pairs)
