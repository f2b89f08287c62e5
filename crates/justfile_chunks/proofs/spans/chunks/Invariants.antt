use Rattle.justfile_chunks.proofs.ChunksTo.{ChunksTo}
use Rattle.justfile_chunks.proofs.spans.chunks.Given as goal

abbrev pub invariant-loop-at : goal.invariant-loop-at
invariant-loop-at l = ChunksTo l.tokens l.at l.spans.items l.start l.depth l.line
