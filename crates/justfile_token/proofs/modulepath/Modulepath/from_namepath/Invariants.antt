use Rattle.std.proofs.Common.{◌≡◌, map, take}
use Rattle.justfile_token.specs.Modulepath.{names_of}
use Rattle.justfile_token.specs.Name.{name_text}
use Rattle.justfile_token.proofs.modulepath.Modulepath.from_namepath.Given as goal

abbrev pub invariant-loop-name : goal.invariant-loop-name
invariant-loop-name l = names_of l.path ≡ map name_text (take l.name-index l.name-items)
