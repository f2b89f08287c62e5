use Rattle.std.proofs.Common.{◌∙◌, arith, ap, sym}
use Rattle.justfile_facts.specs.Rules.{with_item}
use Rattle.justfile_facts.proofs.Allowed.{one_allowed}
use Rattle.justfile_facts.proofs.rules.rules.Goals as goal

pub loop-item-preserved : goal.loop-item-preserved
loop-item-preserved c =
    c.with_item-rules.ensures ∙ ap (λ r. with_item r c.item-item.result) c.loop-item.invariant
    ∙ sym (one_allowed c.args.items.now c.loop-item.item-index c.item-item.result (omega arith) c.item-item.is c.args.imported)
