use Rattle.std.proofs.Common.{◌≡◌, take, string_bytes}
use Rattle.std.specs.List.{flat_map}
use Rattle.justfile_outline.specs.Symbols.{name_part}
use Rattle.justfile_outline.proofs.parts.names_text.Given as goal

abbrev pub invariant-loop-parameter : goal.invariant-loop-parameter
invariant-loop-parameter l = string_bytes l.text ≡ flat_map name_part (take l.parameter-index l.parameters)
