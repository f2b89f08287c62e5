use Rattle.std.proofs.Common.{replicate}
use Rattle.justfile_line.proofs.line.write_blanks.Given as goal

abbrev pub invariant-loop-i : goal.invariant-loop-i
invariant-loop-i g l = g.S.Sink.took l.initial.sink (replicate l._i l.fn.indentation.character) l.sink
