use Rattle.std.proofs.Common.{rules, arith}
use Rattle.justfile_expression.specs.Resolved.{number_of}
use Rattle.justfile_expression.proofs.Resolved.{kept_on, related_on, all_related}
use Rattle.justfile_inner_expressions.proofs.has_variables.resolve_each.Goals as goal

pub loop-value-init : goal.loop-value-init
loop-value-init g c = (search rules, tt)

pub loop-value-preserved : goal.loop-value-preserved
loop-value-preserved g c =
    let kept = c.loop-value.invariant.0 in (
      kept_on c.loop-value.value-index c.loop-value.value-items c.deref_mut-value-items.result.now c.resolve.new.self kept,
      related_on (g.T.HasVariables.is_resolved (number_of c.args.context c.args.bindings.now)) c.loop-value.value-index c.loop-value.value-items c.deref_mut-value-items.result.now
          c.resolve.new.self c.value-item.result kept.0 c.loop-value-test.true c.loop-value.invariant.1
          (rw (kept.1 c.loop-value.value-index c.value-item.result (omega arith)) at c.resolve.ensures),
    )

pub returns : goal.returns
returns g c =
    all_related (g.T.HasVariables.is_resolved (number_of c.args.context c.args.bindings.now)) _ c.loop-value.value-index c.loop-value.value-items c.deref_mut-value-items.result.now c.args.values.now.items _
    c.deref_mut-value-items.ensures.value c.loop-value.invariant.0.0 c.deref_mut-value-items.ensures.len c.loop-value-test.false c.loop-value.invariant.1
