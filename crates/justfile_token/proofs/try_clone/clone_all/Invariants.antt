use Rattle.std.proofs.Common.{take}
use Rattle.std.specs.List.{AllZip}
use Rattle.justfile_token.proofs.try_clone.clone_all.Given as goal

abbrev pub invariant-loop-original : goal.invariant-loop-original
invariant-loop-original g l = AllZip g.T.TryClone.is_copy l.copies.items (take l.original-index l.originals)
