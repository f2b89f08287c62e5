use Rattle.std.proofs.Common.{◌≡◌, [], map, take}
use Rattle.std.specs.List.{flat_map}
use Rattle.justfile_syntax.specs.Symbols.{shown}
use Rattle.recipes.specs.Listing.{listed_groups, with_names}
use Rattle.recipes.specs.Names.{texts}
use Rattle.recipes.proofs.listing.group_names.Given as goal

abbrev pub invariant-loop-symbol : goal.invariant-loop-symbol
invariant-loop-symbol l = texts l.names.items ≡ with_names [] (flat_map listed_groups (map shown (take l.symbol-index l.symbols)))
