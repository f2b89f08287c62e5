use Rattle.std.proofs.Common.{vec_len}
use Rattle.justfile_attribute_set.proofs.LastKept.{HasMet}
use Rattle.justfile_attribute_set.proofs.pairs.last_of_each.Given as goal

abbrev pub invariant-loop-pair : goal.invariant-loop-pair
invariant-loop-pair g l = HasMet (λ p q. g.K.PartialEq.eq p.0 q.0) l.fn.pairs.items l.pairs.items l.kept.items

abbrev pub decreases-loop-pair : goal.decreases-loop-pair
decreases-loop-pair g l = vec_len l.pairs
