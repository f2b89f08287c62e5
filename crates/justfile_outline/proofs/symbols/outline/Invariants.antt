use Rattle.std.proofs.Common.{◌≡◌, map, take}
use Rattle.std.specs.List.{flat_map}
use Rattle.justfile_outline.specs.Shown.{shown}
use Rattle.justfile_outline.specs.Symbols.{item_symbols}
use Rattle.justfile_outline.proofs.symbols.outline.Given as goal

abbrev pub invariant-loop-item : goal.invariant-loop-item
invariant-loop-item l = map shown l.symbols.items ≡ flat_map item_symbols (take l.item-index l.items)
