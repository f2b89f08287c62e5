use Rattle.std.proofs.Common.{arith, subst}
use Rattle.std.specs.Prelude.{IfOk}
use Rattle.justfile_token.proofs.CopiedLists.{one_more}
use Rattle.justfile_item.specs.Copies.{IsSameItem}
use Rattle.justfile_ast.proofs.ast.copy_items.Goals as goal

pub loop-item-preserved : goal.loop-item-preserved
loop-item-preserved c =
    let made = c.in_ok-push_made.ensures in
    one_more IsSameItem c.loop-item.copies.items c.args.items.now c.push_made.new.items.items c.loop-item.item-index made.0 c.item-item.result
    (omega arith) c.item-item.is c.loop-item.invariant (subst (λ r. IfOk r (λ copy. IsSameItem copy c.item-item.result)) made.1 c.clone.ensures) made.2
