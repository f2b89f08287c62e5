use Rattle.std.proofs.Common.{arith}
use Rattle.justfile_outline.proofs.Shows.{gathered}
use Rattle.justfile_outline.specs.Symbols.{item_symbols}
use Rattle.justfile_outline.proofs.symbols.outline.Goals as goal

pub loop-item-preserved : goal.loop-item-preserved
loop-item-preserved c =
    gathered c.args.items.now c.loop-item.item-index c.item-item.result (omega arith) c.item-item.is item_symbols _ _ c.loop-item.invariant c.in_ok-push_symbol.ensures
