use Rattle.std.proofs.Common.{◌∙◌, ap, sym}
use Rattle.std.specs.Vec.Iter.{into_iter_items}
use Rattle.justfile_model.specs.Readers.NewAttribute.{placed_literal}
use Rattle.justfile_attribute_rules.specs.Keys.{views_keys}
use Rattle.justfile_attribute_rules.specs.Made.{positional_leaves, quoted_leaves}
use Rattle.justfile_attribute_rules.proofs.Loops.{goes_on, literal_turn}
use Rattle.justfile_attribute_rules.proofs.literals.string_literals.Goals as goal

pub loop-first-preserved : goal.loop-first-preserved
loop-first-preserved c =
    let rest = into_iter_items c.next.new.self in (
      tt,
      tt,
      c.loop-first.invariant.2
          ∙ literal_turn c.args.name.token c.loop-first.literals.items c.in-Ok.literal (into_iter_items c.loop-first.first-iterator) rest
          (c.in-Some.first, c.in-Some.value) c.in-Some.ensures.steps.0 c.in-Ok.ensures
          ∙ ap (λ ls. goes_on (placed_literal views_keys c.args.name.token) (quoted_leaves ls) (positional_leaves rest)) (sym c.in-Ok-push.ensures.items),
    )
