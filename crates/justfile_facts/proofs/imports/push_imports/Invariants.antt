use Rattle.std.proofs.Common.{◌≡◌, ◌++◌, map, take}
use Rattle.std.specs.List.{flat_map}
use Rattle.justfile_facts.specs.Imports.{item_imports, shown_import}
use Rattle.justfile_facts.proofs.imports.push_imports.Given as goal

abbrev pub invariant-loop-item : goal.invariant-loop-item
invariant-loop-item l = map shown_import l.found.items ≡ map shown_import l.fn.found.items ++ flat_map item_imports (take l.item-index l.items)
