use Rattle.std.proofs.Common.{◌≡◌, ◌++◌, map, reverse, vec_len}
use Rattle.justfile_attribute.specs.Boxes.{unboxed_pair}
use Rattle.justfile_attribute.proofs.boxes.boxed_pairs.Given as goal

abbrev pub invariant-loop-first : goal.invariant-loop-first
invariant-loop-first g l = l.pairs.items ++ reverse (map unboxed_pair l.boxed.items) ≡ l.fn.pairs.items

abbrev pub decreases-loop-first : goal.decreases-loop-first
decreases-loop-first g l = vec_len l.pairs
