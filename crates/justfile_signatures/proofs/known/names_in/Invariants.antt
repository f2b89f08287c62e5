use Rattle.std.proofs.Common.{◌≡◌, take}
use Rattle.std.specs.List.{filter_map}
use Rattle.justfile_signatures.specs.Known.{parameter_name, shown}
use Rattle.justfile_signatures.proofs.known.names_in.Given as goal

abbrev pub invariant-loop-mention : goal.invariant-loop-mention
invariant-loop-mention l = shown l.names.items ≡ filter_map parameter_name (take l.mention-index l.mentions)
