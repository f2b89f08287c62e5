use Rattle.std.proofs.Common.{◌≡◌, ◌++◌, map, take}
use Rattle.std.specs.Prelude.{string_bytes}
use Rattle.std.specs.List.{flat_map}
use Rattle.justfile_syntax.specs.Symbols.{shown}
use Rattle.recipes.specs.Listing.{group_text}
use Rattle.recipes.specs.Names.{texts}
use Rattle.recipes.proofs.listing.push_groups.Given as goal

abbrev pub invariant-loop-name : goal.invariant-loop-name
invariant-loop-name l = string_bytes l.text ≡ string_bytes l.initial.text ++ flat_map (group_text (map shown l.fn.symbols)) (texts (take l.name-index l.names))
