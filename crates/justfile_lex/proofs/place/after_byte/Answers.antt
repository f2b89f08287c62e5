use Rattle.std.proofs.Common.{arith}
use Rattle.justfile_lex.proofs.PlaceLemmas.{place_newline, place_other}
use Rattle.justfile_lex.proofs.place.after_byte.Goals as goal
use Rattle.justfile_lex.proofs.place.after_byte.Goals.{else-bytes-at-eq10-via-then-bytes-at-eq10+else-at-bytes, else-bytes-at-eq10-via-else-bytes-at-eq10}

pub returns-then-at-bytes : goal.returns-then-at-bytes
returns-then-at-bytes c = place_newline _ _ _ _ c.requires.start c.if-at-bytes.true c.if-bytes-at-eq10.true

pub returns : goal.returns
returns c =
    place_other _ _ _ _ c.requires.start c.requires.within (
    elim c.else-bytes-at-eq10.branch [
      | else-bytes-at-eq10-via-then-bytes-at-eq10+else-at-bytes w ↦ λ l e. absurd (omega arith)
      | else-bytes-at-eq10-via-else-bytes-at-eq10 w ↦ λ l e. w.if-bytes-at-eq10.false e
    ])
