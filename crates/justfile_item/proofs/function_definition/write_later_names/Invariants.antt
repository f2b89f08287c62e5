use Rattle.std.proofs.Common.{take}
use Rattle.justfile_item.specs.ItemText.{later_names_text}
use Rattle.justfile_item.proofs.function_definition.write_later_names.Given as goal

abbrev pub invariant-loop-parameter : goal.invariant-loop-parameter
invariant-loop-parameter g l = g.S.Sink.took l.initial.sink (later_names_text (take l.parameter-index l.parameters)) l.sink
