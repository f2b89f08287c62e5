use Rattle.std.proofs.Common.{arith, []}
use Rattle.justfile_syntax.proofs.Loops.{appended}
use Rattle.justfile_syntax.specs.Items.{item_of}
use Rattle.variables.specs.Variables.{assigned}
use Rattle.variables.proofs.names_in.Goals as goal

pub loop-item-preserved : goal.loop-item-preserved
loop-item-preserved c =
    appended item_of c.args.items.now c.loop-item.item-index c.item-item.result (omega arith) c.item-item.is assigned [] _ _ c.loop-item.invariant
    c.in_ok-push_assigned.ensures
