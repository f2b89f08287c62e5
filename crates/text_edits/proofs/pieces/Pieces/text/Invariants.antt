use Rattle.std.proofs.Common.{◌≡◌, ◌++◌, length, string_bytes, take}
use Rattle.text_edits.specs.Pieces.{text_after, text_before, text_of}
use Rattle.text_edits.proofs.pieces.Pieces.text.Given as goal

abbrev pub invariant-loop-piece : goal.invariant-loop-piece
invariant-loop-piece l = string_bytes l.made ≡ text_before (take l.piece-index l.piece-items)

abbrev pub invariant-rest : goal.invariant-rest
invariant-rest l = string_bytes l.made ++ text_after l.after.items ≡ text_of l.fn.self.before.items l.fn.self.after.items

abbrev pub decreases-rest : goal.decreases-rest
decreases-rest l = length l.after.items
