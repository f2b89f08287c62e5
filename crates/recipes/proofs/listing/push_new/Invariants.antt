use Rattle.std.proofs.Common.{◌≡◌, map, take}
use Rattle.std.specs.Prelude.{string_bytes}
use Rattle.recipes.specs.Listing.{with_names}
use Rattle.recipes.specs.Names.{texts}
use Rattle.recipes.proofs.listing.push_new.Given as goal

abbrev pub invariant-loop-group : goal.invariant-loop-group
invariant-loop-group l = texts l.names.items ≡ with_names (texts l.initial.names.items) (map string_bytes (take l.group-index l.groups))
