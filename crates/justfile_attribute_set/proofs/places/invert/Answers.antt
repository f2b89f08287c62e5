use Rattle.std.proofs.Common.{rules}
use Rattle.justfile_attribute_set.proofs.Placed.{one_more_inverse}
use Rattle.justfile_attribute_set.proofs.places.invert.Goals as goal

pub loop-index-preserved : goal.loop-index-preserved
loop-index-preserved g c =
    one_more_inverse c.loop-index.index c.args.sorted.now c.loop-index.places.items c.index-sorted-index.result c.requires (search rules) (search rules)
    c.loop-index.invariant
