-- Units along a line.
use Rattle.std.proofs.Common.{◌≡◌, ℕ, ◌+◌, ◌<◌, ◌≤◌, List, length, take, get_or, refl, sym, subst, arith, inl, inr}
use Rattle.std.specs.Str.{IsCharBoundary}
use Rattle.std.proofs.lemmas.Bool.{cases_lt}
use Rattle.std.proofs.lemmas.Bool.Decides.{nat_tests}
use Rattle.std.proofs.lemmas.List.Sums.{sum_by_more}
use Rattle.justfile_lines.specs.declared.encoding.Encoding.{Encoding}
use Rattle.justfile_lines.specs.declared.encoding.Encoding.TheVariants.{Utf8, Utf16}
use Rattle.justfile_lines.specs.Positions.{IsLastUpTo, IsOffset, byte_units, column_at, line_at, width}
use Rattle.justfile_lines.specs.Starts.{IsStart}
use Rattle.justfile_lines.proofs.Columns.{column_from, line_at-le, sum_grows}
use Rattle.justfile_lines.proofs.Searches.{start_first}

pub width_more : (encoding : Encoding) (text : List ℕ) (i : ℕ) → i < length text → width encoding (take (i + 1) text) ≡ width encoding (take i text) + byte_units encoding (get_or text i 0)
width_more encoding text i h = sum_by_more (byte_units encoding) text i 0 h

pub width_grows : (encoding : Encoding) (text : List ℕ) (i j : ℕ) → i ≤ j → width encoding (take i text) ≤ width encoding (take j text)
width_grows encoding text i j h = sum_grows (byte_units encoding) text i j h

-- the first byte of a character counts
counts : (encoding : Encoding) (byte : ℕ) → (128 ≤ byte → 192 ≤ byte) → 1 ≤ byte_units encoding byte
counts Utf8 byte h = omega arith
counts Utf16 byte h = grind (arith, nat_tests)

-- more characters have more units
pub wider : (encoding : Encoding) (text : List ℕ) (i j : ℕ) → IsCharBoundary text i → i < j → j ≤ length text → width encoding (take i text) < width encoding (take j text)
wider encoding text i j bound lt within =
    let short : i < length text = omega arith in
    omega (arith, width_more encoding text i short, counts encoding (get_or text i 0) (bound.1 short), width_grows encoding text (i + 1) j (omega arith))

-- up to where the units exceed the column no bound of characters was passed
pub stays : (encoding : Encoding) (text : List ℕ) (start at units column last more : ℕ) → ((other : ℕ) → IsCharBoundary text other → other ≤ at → other ≤ last)
    → width encoding (take start text) + units ≡ width encoding (take at text) → at < length text → column < units + more → more ≡ byte_units encoding (get_or text at 0)
    → (other : ℕ) → IsCharBoundary text other → width encoding (take other text) ≤ width encoding (take start text) + column → other ≤ last
stays encoding text start at units column last more latest is lt over e other bound le =
    grind (arith, width_more encoding text at lt, width_grows encoding text (at + 1) other, latest other bound)

-- the offset that was found in a line is the last one up to the column
module _ (encoding : Encoding) (text : List ℕ) (line column at end offset : ℕ) (start : IsStart text line at)
    (ends : (other : ℕ) → other ≤ length text → line_at text other ≡ line → other ≤ end) (in_line : line_at text offset ≡ line) (within : offset ≤ length text)
    (from : at ≤ offset) (short : width encoding (take offset text) ≤ width encoding (take at text) + column)
    (latest : (other : ℕ) → IsCharBoundary text other → other ≤ end → width encoding (take other text) ≤ width encoding (take at text) + column → other ≤ offset) where
  pub is_last : IsLastUpTo encoding text line column offset
  is_last = record {
    line_is = in_line;
    column_is = omega (arith, column_from encoding text line at offset start from within in_line);
    last = λ other bound e le. latest other bound (ends other bound.0 e)
        (omega (arith, column_from encoding text line at other start (start_first text line at other start e) bound.0 e));
  }

-- an offset is found again by its position
pub found_again : (encoding : Encoding) (text : List ℕ) (line column offset at : ℕ) → IsStart text line at → IsLastUpTo encoding text line column offset → offset ≤ length text
    → (other : ℕ) → IsCharBoundary text other → line_at text other ≡ line → column_at encoding text other ≡ column → offset ≡ other
found_again encoding text line column offset at start h within other bound e f =
    grind (
      arith,
      h.last other bound e,
      h.column_is,
      h.line_is,
      bound.0,
      wider encoding text other offset bound,
      start_first text line at offset start h.line_is,
      start_first text line at other start e,
      column_from encoding text line at offset start,
      column_from encoding text line at other start,
    )

-- an offset in a character isn't before the first one after it
pub last_of_itself : (encoding : Encoding) (text : List ℕ) (offset at : ℕ) → IsStart text (line_at text offset) at → IsCharBoundary text offset
    → IsLastUpTo encoding text (line_at text offset) (column_at encoding text offset) offset
last_of_itself encoding text offset at start bound = record {
  line_is = refl;
  column_is = omega arith;
  last = λ other other_bound e le. elim (cases_lt offset other) [
    | inl lt ↦ absurd
        (omega (
          arith,
          wider encoding text offset other bound lt other_bound.0,
          column_from encoding text (line_at text offset) at offset start (start_first text (line_at text offset) at offset start refl) bound.0 refl,
          column_from encoding text (line_at text offset) at other start (start_first text (line_at text offset) at other start e) other_bound.0 e,
        ))
    | inr ge ↦ ge
  ];
}

-- the position of an offset leads back to it
pub position_back : (encoding : Encoding) (text : List ℕ) (offset line column at : ℕ) → IsStart text line at → line ≡ line_at text offset → column ≡ column_at encoding text offset
    → IsCharBoundary text offset → IsOffset encoding text (record { line = line; column = column }) offset
position_back encoding text offset line column at start e f bound = record {
  boundary = bound;
  in_line = λ _.
      subst (λ (n : ℕ). IsLastUpTo encoding text line n offset) (sym f)
      (subst (λ (n : ℕ). IsLastUpTo encoding text n (column_at encoding text offset) offset) (sym e)
      (last_of_itself encoding text offset at (subst (λ (n : ℕ). IsStart text n at) e start) bound));
  after = λ lt. absurd (omega (arith, line_at-le text offset));
}
