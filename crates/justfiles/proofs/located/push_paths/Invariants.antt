use Rattle.std.proofs.Common.{◌≡◌, ◌++◌, map, string_bytes, take}
use Rattle.std.specs.List.{flat_map}
use Rattle.justfiles.specs.Located.{path_of}
use Rattle.justfiles.proofs.located.push_paths.Given as goal

abbrev pub invariant-loop-located : goal.invariant-loop-located
invariant-loop-located l = map string_bytes l.paths.items ≡ map string_bytes l.fn.paths.items ++ flat_map path_of (take l.located-index l.modules)
