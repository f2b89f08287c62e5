use Rattle.std.proofs.Common.{arith}
use Rattle.justfile_syntax.specs.Symbols.{shown}
use Rattle.recipes.proofs.Loops.{all_named}
use Rattle.recipes.specs.Listing.{listed_groups}
use Rattle.recipes.proofs.listing.group_names.Goals as goal

pub loop-symbol-preserved : goal.loop-symbol-preserved
loop-symbol-preserved c =
    all_named shown listed_groups c.args.symbols.now c.loop-symbol.symbol-index c.symbol-item.result _ _ _ (omega arith) c.symbol-item.is c.loop-symbol.invariant
    c.in_ok-push_names.ensures
