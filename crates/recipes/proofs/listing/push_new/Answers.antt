use Rattle.std.proofs.Common.{◌∙◌, ap, arith}
use Rattle.recipes.proofs.Loops.{named}
use Rattle.recipes.specs.Listing.{with_name}
use Rattle.recipes.proofs.listing.push_new.Goals as goal

pub loop-group-preserved : goal.loop-group-preserved
loop-group-preserved c =
    named c.args.groups.now c.loop-group.group-index c.group-item.result _ _ _ (omega arith) c.group-item.is c.loop-group.invariant
    (c.in_ok-push_if_new.ensures ∙ ap (with_name _) c.as_str.ensures.value)
