use Rattle.std.proofs.Common.{◌≡◌, length}
use Rattle.std.specs.Cmp.Lexicographic.{pointwise}
use Rattle.justfile_attribute_set.proofs.pairs.have_same_keys.Given as goal

abbrev pub invariant-loop-pair : goal.invariant-loop-pair
invariant-loop-pair g l =
    pointwise (λ p q. g.K.PartialEq.eq p.0 q.0) l.left l.right ≡ pointwise (λ p q. g.K.PartialEq.eq p.0 q.0) l.initial.left l.initial.right

abbrev pub decreases-loop-pair : goal.decreases-loop-pair
decreases-loop-pair g l = length l.left
