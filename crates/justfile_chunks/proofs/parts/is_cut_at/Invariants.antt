use Rattle.justfile_chunks.proofs.PartTables.{KnownTo}
use Rattle.justfile_chunks.proofs.parts.is_cut_at.Given as goal

abbrev pub invariant-loop-token : goal.invariant-loop-token
invariant-loop-token l = KnownTo l.others l.token-index l.depth l.line
