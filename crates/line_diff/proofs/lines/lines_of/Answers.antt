use Rattle.std.proofs.Common.{drop, take}
use Rattle.std.proofs.lemmas.Str.{IsUtf8-drop}
use Rattle.line_diff.proofs.LineLemmas.{lines_on}
use Rattle.line_diff.proofs.lines.lines_of.Goals as goal

pub lines-preserved : goal.lines-preserved
lines-preserved c =
    let rest = c.lines.rest.now in
    let n = c.first_line_length.result in
    let on = lines_on (take n rest) rest (drop n rest) c.lines.lines.items c.split_at.result.0 _ c.lines.invariant.1 c.first_line_length.ensures.first c.split_at.ensures.front in (
      rw c.split_at.ensures.back (IsUtf8-drop rest n c.lines.invariant.0 c.first_line_length.ensures.boundary),
      rw (c.in_ok-push.ensures.items, c.split_at.ensures.back) on,
    )
