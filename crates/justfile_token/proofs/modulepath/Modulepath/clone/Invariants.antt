use Rattle.std.proofs.Common.{◌≡◌, map, take, string_bytes}
use Rattle.justfile_token.proofs.modulepath.Modulepath.clone.Given as goal

abbrev pub invariant-loop-name : goal.invariant-loop-name
invariant-loop-name l = map string_bytes l.names.items ≡ map string_bytes (take l.name-index l.name-items)
