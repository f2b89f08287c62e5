-- Places that follow a known place in its line.
use Rattle.std.proofs.Common.{◌≡◌, ℕ, ◌+◌, ◌*◌, ◌-◌, ◌≤◌, List, [], ◌∷◌, length, take, drop, get_or, refl, ap, arith}
use Rattle.std.specs.Str.{IsCharBoundary}
use Rattle.std.proofs.lemmas.List.{length-take-le, take-take}
use Rattle.std.proofs.lemmas.List.Sums.{sum_by-cons, sum_by-take-drop}
use Rattle.justfile_lines.specs.declared.encoding.Encoding.{Encoding}
use Rattle.justfile_lines.specs.Positions.{IsLastUpTo, byte_units, column_at, line_at, width}
use Rattle.justfile_lines.specs.Starts.{AreStarts, IsStart}
use Rattle.justfile_lines.proofs.Columns.{column_from, line_at-le, lines_grow, units_bound}
use Rattle.justfile_lines.proofs.Searches.{start_first}
use Rattle.justfile_lines.proofs.Walks.{is_last}

-- ---- a width is at most twice the number of bytes

width_bound : (encoding : Encoding) (text : List ℕ) → width encoding text ≤ 2 * length text
width_bound encoding [] = omega arith
width_bound encoding (c ∷ text) =
    omega (arith, sum_by-cons (byte_units encoding) c text, units_bound encoding c, width_bound encoding text)

-- ---- columns

module _ (encoding : Encoding) (text starts : List ℕ) (known offset : ℕ) (are : AreStarts text starts) (order : known ≤ offset) (within : offset ≤ length text)
    (line : line_at text offset ≡ line_at text known) where
  abbrev start_at : ℕ
  start_at = get_or starts (line_at text known) 0

  is_start : IsStart text (line_at text known) start_at
  is_start = are.each (line_at text known) (omega (arith, are.count, line_at-le text known))

  -- the width of what is between them
  between_is : width encoding (drop known (take offset text)) + width encoding (take known text) ≡ width encoding (take offset text)
  between_is = omega (arith, sum_by-take-drop (byte_units encoding) (take offset text) known, ap (width encoding) (take-take known offset text order))

  pub column_more : column_at encoding text known + width encoding (drop known (take offset text)) ≡ column_at encoding text offset
  column_more =
      let first = start_first text _ start_at known is_start refl in
      omega (
        arith,
        between_is,
        column_from encoding text _ start_at known is_start first (omega arith) refl,
        column_from encoding text _ start_at offset is_start (omega arith) within line,
      )

  pub column_bound : column_at encoding text known + width encoding (drop known (take offset text)) ≤ 2 * length text
  column_bound =
      let first = start_first text _ start_at known is_start refl in
      omega (
        arith,
        column_more,
        column_from encoding text _ start_at offset is_start (omega arith) within line,
        width_bound encoding (take offset text),
        length-take-le offset text within,
      )

-- the offset that was found after a known place is the last one up to the column
module _ (encoding : Encoding) (text starts : List ℕ) (line column known end offset : ℕ) (are : AreStarts text starts) (at_line : line_at text known ≡ line)
    (known_column : column_at encoding text known ≤ column) (known_within : known ≤ length text)
    (ends : (other : ℕ) → other ≤ length text → line_at text other ≡ line → other ≤ end)
    (before_end : (other : ℕ) → other ≤ end → line_at text other ≤ line) (within : offset ≤ length text) (from : known ≤ offset) (to : offset ≤ end)
    (short : width encoding (take offset text) ≤ width encoding (take known text) + (column - column_at encoding text known))
    (latest : (other : ℕ) → IsCharBoundary text other → other ≤ end
    → width encoding (take other text) ≤ width encoding (take known text) + (column - column_at encoding text known) → other ≤ offset) where
  abbrev begins_at : ℕ
  begins_at = get_or starts line 0

  begins : IsStart text line begins_at
  begins = are.each line (omega (arith, are.count, at_line, line_at-le text known))

  begins_before : begins_at ≤ known
  begins_before = start_first text line begins_at known begins at_line

  known_is : width encoding (take begins_at text) + column_at encoding text known ≡ width encoding (take known text)
  known_is = column_from encoding text line begins_at known begins begins_before known_within at_line

  pub is_last_after : IsLastUpTo encoding text line column offset
  is_last_after =
      is_last encoding text line column begins_at end offset begins ends (omega (arith, before_end offset to, at_line, lines_grow text known offset from)) within
      (omega (arith, begins_before)) (omega (arith, known_is, short, known_column))
      (λ other bound le narrow. latest other bound le (omega (arith, known_is, known_column)))
