use Rattle.std.proofs.Common.{◌≡◌, ◌++◌, map, take}
use Rattle.std.specs.Prelude.{string_bytes}
use Rattle.std.specs.List.{flat_map}
use Rattle.justfile_syntax.specs.Symbols.{shown}
use Rattle.recipes.specs.Listing.{ungrouped_line}
use Rattle.recipes.proofs.listing.push_ungrouped.Given as goal

abbrev pub invariant-loop-symbol : goal.invariant-loop-symbol
invariant-loop-symbol l = string_bytes l.text ≡ string_bytes l.initial.text ++ flat_map ungrouped_line (map shown (take l.symbol-index l.symbols))
