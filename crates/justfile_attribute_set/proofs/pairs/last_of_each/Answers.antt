use Rattle.std.proofs.Common.{rules}
use Rattle.std.specs.Cmp.{on_per}
use Rattle.justfile_attribute_set.proofs.LastKept.{met_left, met_kept}
use Rattle.justfile_attribute_set.proofs.pairs.last_of_each.Goals as goal

pub loop-pair-preserved-in-Continue-1 : goal.loop-pair-preserved-in-Continue-1
loop-pair-preserved-in-Continue-1 g c =
    met_kept (λ p q. g.K.PartialEq.eq p.0 q.0) (on_per (λ p. p.0) g.met.K.PartialEq.laws) c.in-Some.pair c.loop-pair.invariant c.in-Some.ensures.items (search rules) c.in_ok-push.ensures.items

pub loop-pair-preserved : goal.loop-pair-preserved
loop-pair-preserved g c =
    met_left (λ p q. g.K.PartialEq.eq p.0 q.0) (on_per (λ p. p.0) g.met.K.PartialEq.laws) c.in-Some.pair c.loop-pair.invariant c.in-Some.ensures.items (search rules)
