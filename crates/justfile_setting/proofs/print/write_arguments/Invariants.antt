use Rattle.std.proofs.Common.{take}
use Rattle.justfile_setting.specs.Print.{later_texts}
use Rattle.justfile_setting.proofs.print.write_arguments.Given as goal

abbrev pub invariant-loop-argument : goal.invariant-loop-argument
invariant-loop-argument g l = g.S.Sink.took l.initial.sink (later_texts (take l.argument-index l.arguments)) l.sink
