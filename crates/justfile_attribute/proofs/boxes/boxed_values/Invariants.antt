use Rattle.std.proofs.Common.{◌≡◌, ◌++◌, map}
use Rattle.std.specs.BTreeMap.{btree_map_len, keys}
use Rattle.std.specs.List.{All}
use Rattle.justfile_attribute.specs.Boxes.{IsBelowFirst, unboxed_entry}
use Rattle.justfile_attribute.proofs.boxes.boxed_values.Given as goal

abbrev pub invariant-loop-key : goal.invariant-loop-key
invariant-loop-key g l = record {
  entries : l.values.entries ++ map unboxed_entry l.boxed.entries ≡ l.fn.values.entries;
  below : All (IsBelowFirst g.K.Ord.cmp l.boxed.entries) (keys l.values);
}

abbrev pub decreases-loop-key : goal.decreases-loop-key
decreases-loop-key g l = btree_map_len l.values
