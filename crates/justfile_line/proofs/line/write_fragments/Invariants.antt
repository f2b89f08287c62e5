use Rattle.std.proofs.Common.{take}
use Rattle.justfile_line.specs.Body.{fragments_text}
use Rattle.justfile_line.proofs.line.write_fragments.Given as goal

abbrev pub invariant-loop-fragment : goal.invariant-loop-fragment
invariant-loop-fragment g l = g.S.Sink.took l.initial.sink (fragments_text (take l.fragment-index l.fragments)) l.sink
