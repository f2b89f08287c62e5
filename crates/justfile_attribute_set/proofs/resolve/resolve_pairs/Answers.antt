use Rattle.std.proofs.Common.{rules, arith, get_or, refl, subst}
use Rattle.justfile_attribute_set.specs.Pairs.{Pair}
use Rattle.justfile_attribute_set.specs.Resolved.{IsResolvedPair}
use Rattle.justfile_expression.specs.Resolved.{number_of}
use Rattle.justfile_expression.proofs.Resolved.{kept_on, related_on, all_related}
use Rattle.justfile_attribute_set.proofs.resolve.resolve_pairs.Goals as goal

pub loop-pair-init : goal.loop-pair-init
loop-pair-init c = (search rules, tt)

pub loop-pair-preserved : goal.loop-pair-preserved
loop-pair-preserved c =
    let kept = c.loop-pair.invariant.0 in
    let numbers = number_of c.args.context c.args.bindings.now in
    let new : Pair = (c.resolve_variables.new.self, (get_or c.loop-pair.pair-items c.loop-pair.pair-index c.pair-item.result).1) in (
      kept_on c.loop-pair.pair-index c.loop-pair.pair-items c.deref_mut-pair-items.result.now new kept,
      related_on (IsResolvedPair numbers) c.loop-pair.pair-index c.loop-pair.pair-items c.deref_mut-pair-items.result.now new c.pair-item.result kept.0
          c.loop-pair-test.true c.loop-pair.invariant.1
          (subst (λ p. IsResolvedPair numbers new p) (kept.1 c.loop-pair.pair-index c.pair-item.result (omega arith)) (c.resolve_variables.ensures, refl)),
    )

pub returns : goal.returns
returns c =
    all_related (IsResolvedPair (number_of c.args.context c.args.bindings.now)) _ c.loop-pair.pair-index c.loop-pair.pair-items c.deref_mut-pair-items.result.now c.args.pairs.now.items _
    c.deref_mut-pair-items.ensures.value c.loop-pair.invariant.0.0 c.deref_mut-pair-items.ensures.len c.loop-pair-test.false c.loop-pair.invariant.1
