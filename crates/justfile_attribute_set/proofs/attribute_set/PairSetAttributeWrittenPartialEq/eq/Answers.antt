use Rattle.std.proofs.Common.{◌∙◌}
use Rattle.std.specs.Cmp.Lexicographic.{pointwise}
use Rattle.justfile_attribute_set.proofs.Firsts.{pointwise_firsts}
use Rattle.justfile_attribute_set.specs.Pairs.{Pair, same}
use Rattle.justfile_attribute_set.proofs.attribute_set.PairSetAttributeWrittenPartialEq.eq.Goals as goal

pub returns : goal.returns
returns c =
    c.have_same_keys.ensures ∙ (λ i. pointwise (λ (p q : Pair). same p.0 q.0) (c.deref.ensures.value i) (c.deref-2.ensures.value i))
    ∙ pointwise_firsts same c.args.self.now.pairs.items c.args.other.now.pairs.items
