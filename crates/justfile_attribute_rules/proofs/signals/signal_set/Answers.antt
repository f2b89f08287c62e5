use Rattle.std.proofs.Common.{◌∙◌, ap, sym}
use Rattle.std.specs.Vec.Iter.{into_iter_items}
use Rattle.justfile_attribute_rules.specs.Made.{quoted_leaves}
use Rattle.justfile_attribute_rules.proofs.Loops.{adds_up, set_started, set_turn}
use Rattle.justfile_attribute_rules.proofs.signals.signal_set.Goals as goal

pub loop-literal-init : goal.loop-literal-init
loop-literal-init c = (
  tt,
  tt,
  set_started (quoted_leaves c.args.literals.items)
      ∙ (λ i. adds_up (sym c.new-signals.ensures.empty i) (quoted_leaves (sym c.into_iter-literal-iterator.ensures.into_iter_gives.0 i))),
)

pub loop-literal-preserved : goal.loop-literal-preserved
loop-literal-preserved c =
    let rest = into_iter_items c.next.new.self in (
      tt,
      tt,
      c.loop-literal.invariant.2
          ∙ set_turn c.loop-literal.signals.keys (into_iter_items c.loop-literal.literal-iterator) rest c.in-Some.literal c.in-Ok.signal
          c.in-Some.ensures.steps.0 c.in-Ok.ensures
          ∙ ap (λ keys. adds_up keys (quoted_leaves rest)) (sym c.in-Ok-insert.ensures.keys),
    )
