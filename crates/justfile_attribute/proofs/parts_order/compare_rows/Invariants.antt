use Rattle.std.proofs.Common.{◌≡◌, ◌≤◌, length, drop}
use Rattle.std.specs.Cmp.Lexicographic.{slice_cmp}
use Rattle.std.specs.Ordering.{on}
use Rattle.justfile_attribute.specs.Order.{by_content, literal_key}
use Rattle.justfile_attribute.proofs.parts_order.compare_rows.Given as goal

abbrev pub invariant-loop-i : goal.invariant-loop-i
invariant-loop-i l =
    (l.i ≤ length l.others.items)
    × (slice_cmp (on literal_key by_content) (drop l.i l.literal-items) (drop l.i l.others.items) ≡ slice_cmp (on literal_key by_content) l.literal-items l.others.items)
