use Rattle.std.proofs.Common.{◌≡◌, ◌+◌, length, subst, arith}
use Rattle.std.specs.Str.{IsCharBoundary}
use Rattle.std.proofs.lemmas.Str.{IsCharBoundary-start, IsCharBoundary-end}
use Rattle.text_rows.proofs.format_parts.whole.Goals as goal

pub invariant_of-result : goal.invariant_of-result
invariant_of-result c =
    let text = c.args.text.now in
    let end : length text ≡ 0 + length text = omega arith in
    record { in_source = (omega arith, IsCharBoundary-start text c.utf8.text, subst (IsCharBoundary text) end (IsCharBoundary-end text)) }
