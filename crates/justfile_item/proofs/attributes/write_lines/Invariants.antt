use Rattle.std.proofs.Common.{take}
use Rattle.justfile_item.specs.Attributes.{lines_text}
use Rattle.justfile_item.proofs.attributes.write_lines.Given as goal

abbrev pub invariant-loop-pair : goal.invariant-loop-pair
invariant-loop-pair g l = g.S.Sink.took l.initial.sink (lines_text (take l.pair-index l.pairs)) l.sink
