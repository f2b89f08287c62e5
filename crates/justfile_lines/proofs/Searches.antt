-- Which line an offset is in.
use Rattle.std.proofs.Common.{◌≡◌, ◌==◌, ℕ, ◌+◌, ◌-◌, ◌<◌, ◌≤◌, List, [], ◌∷◌, ◌++◌, length, take, drop, get_or, zero, suc, refl, sym, ap, subst, ◌∙◌, arith, inl, inr}
use Rattle.std.specs.Str.{IsUtf8}
use Rattle.memchr.specs.Find.{NoneBefore, Nowhere, Passes, is_byte}
use Rattle.std.proofs.lemmas.Bool.{cases_lt, eq-eqb, eqb-true, ne_eqb}
use Rattle.std.proofs.lemmas.List.{get_or-drop, get_or_append_left, get_or_default, get_or_push, length-drop, length_push, take_all}
use Rattle.std.proofs.lemmas.List.Sums.{count_by_more_no}
use Rattle.justfile_lines.specs.Positions.{feeds, line_at}
use Rattle.justfile_lines.specs.Starts.{AreStarts, IsStart}
use Rattle.justfile_lines.proofs.Columns.{line_at-le, line_before, lines_grow, start_after}

-- an offset before the beginning of a line is in an earlier one
pub line_below : (text : List ℕ) (line at offset : ℕ) → IsStart text line at → offset < at → line_at text offset < line
line_below text line at offset h lt =
    omega (arith, line_before text line at h (omega arith), lines_grow text offset (at - 1) (omega arith))

-- an offset from the beginning of a line on isn't
pub line_from_start : (text : List ℕ) (line at offset : ℕ) → IsStart text line at → at ≤ offset → line ≤ line_at text offset
line_from_start text line at offset h le = omega (arith, h.line_is, lines_grow text at offset le)

-- an offset of a line isn't before the beginning of the line
pub start_first : (text : List ℕ) (line at offset : ℕ) → IsStart text line at → line_at text offset ≡ line → at ≤ offset
start_first text line at offset h e = grind (arith, line_below text line at offset h)

-- the beginning of a line that was read
pub start_read : (text starts : List ℕ) (line at : ℕ) → AreStarts text starts → line < length starts → at ≡ get_or starts line at → IsStart text line at
start_read text starts line at are lt e = subst (IsStart text line) (sym (e ∙ get_or_default starts line at 0 lt)) (are.each line lt)

-- between the beginnings of two lines in a row
pub found_between : (text starts : List ℕ) (line offset : ℕ) → AreStarts text starts → line + 1 < length starts → get_or starts line 0 ≤ offset
    → offset < get_or starts (line + 1) 0 → line_at text offset ≡ line
found_between text starts line offset are short from to =
    omega (arith, line_from_start text line _ offset (are.each line (omega arith)) from, line_below text (line + 1) _ offset (are.each (line + 1) short) to)

-- from the beginning of the last line on
pub found_last : (text starts : List ℕ) (line offset : ℕ) → AreStarts text starts → line + 1 ≡ length starts → get_or starts line 0 ≤ offset
    → line_at text offset ≡ line
found_last text starts line offset are last from =
    omega (arith, line_from_start text line _ offset (are.each line (omega arith)) from, line_at-le text offset, are.count)

-- ---- the end of a line

pub before_next : (text : List ℕ) (line at offset : ℕ) → IsStart text (line + 1) at → line_at text offset ≡ line → offset ≤ at - 1
before_next text line at offset h e = grind (arith, line_from_start text (line + 1) at offset h)

pub up_to_next : (text : List ℕ) (line at offset : ℕ) → IsStart text (line + 1) at → offset ≤ at - 1 → line_at text offset ≤ line
up_to_next text line zero offset h le = let e : 0 ≡ line + 1 = h.line_is in absurd (omega arith)
up_to_next text line (suc i) offset h le = omega (arith, line_below text (line + 1) (suc i) offset h (omega arith))

-- ---- lines that are found one after the other

-- what a text has from an offset on
abbrev pub rest_from : (text : List ℕ) (at : ℕ) → List ℕ
rest_from text at = take (length text - at) (drop at text)

pub rest_is : (text : List ℕ) (at : ℕ) → rest_from text at ≡ drop at text
rest_is text at = take_all (length text - at) (drop at text) (omega (arith, length-drop at text))

pub rest_at : (text : List ℕ) (at k : ℕ) → get_or (rest_from text at) k 0 ≡ get_or text (at + k) 0
rest_at text at k = ap (λ (l : List ℕ). get_or l k 0) (rest_is text at) ∙ get_or-drop at text k 0

pub rest_length : (text : List ℕ) (at : ℕ) → length (rest_from text at) ≡ length text - at
rest_length text at = ap length (rest_is text at) ∙ length-drop at text

-- a text whose lines were found up to an offset, where a line begins
module _ (text starts : List ℕ) (at : ℕ) (within : at ≤ length text) (count : length starts ≡ line_at text at + 1)
    (each : (line : ℕ) → line < length starts → IsStart text line (get_or starts line 0)) where
  -- the line stays the same where no byte is a line feed
  line_stays : (n : ℕ) → at + n ≤ length text → Nowhere (Passes (is_byte 10) (rest_from text at)) 0 n → line_at text (at + n) ≡ line_at text at
  line_stays zero h none = ap (line_at text) (omega arith)
  line_stays (suc n) h none =
      let lt : at + n < length text = omega arith in
      let other : get_or text (at + n) 0 ≡ 10 → ⊥ = λ e. none n (omega arith) (omega arith) (eq-eqb _ 10 (rest_at text at n ∙ e)) in
      ap (line_at text) (omega arith)
      ∙ count_by_more_no (λ c. c == 10) text (at + n) 0 lt (ne_eqb _ 10 other)
      ∙ line_stays n (omega arith) (λ k low short. none k low (omega arith))

  -- these are all lines, if the rest has no line feed
  pub all_found : Nowhere (Passes (is_byte 10) (rest_from text at)) 0 (length (rest_from text at)) → AreStarts text starts
  all_found none =
      let e : at + length (rest_from text at) ≡ length text = omega (arith, rest_length text at) in
      let same : feeds text ≡ line_at text at = sym (ap feeds (take_all _ text (omega arith))) ∙ sym (ap (line_at text) e) ∙ line_stays _ (omega arith) none in
      record { count = count ∙ ap (λ (n : ℕ). n + 1) (sym same); each = each }

  -- a line more, after the first line feed of the rest
  module _ (n : ℕ) (utf8 : IsUtf8 text) (first : NoneBefore (Passes (is_byte 10) (rest_from text at)) 0 (length (rest_from text at)) n)
      (feed : Passes (is_byte 10) (rest_from text at) n) (next : List ℕ) (is : next ≡ starts ++ (at + (n + 1)) ∷ []) where
    pub before_end : at + n < length text
    before_end = omega (arith, first.high, rest_length text at)

    stays : line_at text (at + n) ≡ line_at text at
    stays = line_stays n (omega (arith, before_end)) first.before

    is_feed : get_or text (at + n) 0 ≡ 10
    is_feed = sym (rest_at text at n) ∙ eqb-true _ 10 feed

    start : IsStart text (line_at text at + 1) (at + (n + 1))
    start =
        subst (IsStart text (line_at text at + 1)) (omega arith)
        (subst (λ (line : ℕ). IsStart text (line + 1) (at + n + 1)) stays (start_after text (at + n) utf8 before_end is_feed))

    pub count_more : length next ≡ line_at text (at + (n + 1)) + 1
    count_more = ap length is ∙ length_push starts (at + (n + 1)) ∙ omega (arith, count, start.line_is)

    pub each_more : (line : ℕ) → line < length next → IsStart text line (get_or next line 0)
    each_more line h =
        elim (cases_lt line (length starts)) [
          | inl before ↦
              subst (IsStart text line) (sym (ap (λ (l : List ℕ). get_or l line 0) is ∙ get_or_append_left starts ((at + (n + 1)) ∷ []) 0 line before)) (each line before)
          | inr last ↦
              let e : line ≡ line_at text at + 1 = omega (arith, count, ap length is ∙ length_push starts (at + (n + 1))) in
              let f : get_or next line 0 ≡ at + (n + 1) = ap (λ (l : List ℕ). get_or l line 0) is ∙ get_or_push starts (at + (n + 1)) 0 line (omega arith) in
              subst (IsStart text line) (sym f) (subst (λ (other : ℕ). IsStart text other (at + (n + 1))) (sym e) start)
        ]

-- ---- the last line

pub no_feeds : (text : List ℕ) (n : ℕ) → n ≤ length text → Nowhere (Passes (is_byte 10) text) 0 n → feeds (take n text) ≡ 0
no_feeds text zero h none = refl
no_feeds text (suc n) h none =
    let lt : n < length text = omega arith in
    let other : get_or text n 0 ≡ 10 → ⊥ = λ e. none n (omega arith) (omega arith) (eq-eqb _ 10 e) in
    let more : suc n ≡ n + 1 = omega arith in
    ap (λ (m : ℕ). feeds (take m text)) more
    ∙ count_by_more_no (λ c. c == 10) text n 0 lt (ne_eqb _ 10 other)
    ∙ no_feeds text n (omega arith) (λ k low short. none k low (omega arith))

-- a text without a line feed is its last line
pub only_line : (text : List ℕ) → Nowhere (Passes (is_byte 10) text) 0 (length text) → feeds text ≡ 0
only_line text none = ap feeds (sym (take_all (length text) text (omega arith))) ∙ no_feeds text (length text) (omega arith) none
