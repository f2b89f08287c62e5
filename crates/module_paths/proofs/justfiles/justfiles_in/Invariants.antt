use Rattle.std.proofs.Common.{◌≡◌, map, string_bytes, take}
use Rattle.module_paths.specs.Justfiles.{justfiles_in}
use Rattle.module_paths.proofs.justfiles.justfiles_in.Given as goal

abbrev pub invariant-loop-name : goal.invariant-loop-name
invariant-loop-name l = map string_bytes l.found.items ≡ justfiles_in l.folder (map string_bytes (take l.name-index l.inside))
