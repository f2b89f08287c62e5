-- Where an item may begin.
use Rattle.std.proofs.Common.{◌≡◌, ◌∙◌, inl, inr, ℕ, ◌-◌, ◌<◌, ◌≤◌, true, false, List, length, drop, ap, arith}
use Rattle.std.specs.Prelude.{min, slice_index}
use Rattle.std.specs.List.{slice_range}
use Rattle.std.specs.Str.{IsCharBoundary}
use Rattle.std.proofs.lemmas.Bool.Decides.{nat_tests}
use Rattle.std.proofs.lemmas.List.{get_or-drop, get_or-take, length-drop, length-take}
use Rattle.justfile_model.specs.Lexing.BlankLines.{is_blank_or_line_end}
use Rattle.justfile_recovery.specs.Starts.{begins_item, begins_line, is_start}
use Rattle.text_parts.specs.Places.{IsLineStart}
use Rattle.justfile_analysis.specs.Ends.{IsStop}

-- a byte with which an item may begin is ASCII, and no blank and no line end
small : (byte : ℕ) → begins_item byte ≡ true → byte < 128
small byte h = grind (arith, nat_tests, h)

other : (byte : ℕ) → begins_item byte ≡ true → is_blank_or_line_end byte ≡ false
other byte h = grind (arith, nat_tests, h)

-- What is at an offset where an item may begin.
pub record Begins (text : List ℕ) (at : ℕ) : Type 0 where
  pub within : at < length text
  pub small : slice_index text at < 128
  pub is_other : is_blank_or_line_end (slice_index text at) ≡ false
  pub line : 0 < at → slice_index text (at - 1) ≡ 10

pub begins : (text : List ℕ) (at : ℕ) → is_start text at ≡ true → Begins text at
unfolding is_start
begins text at h = record {
  within = grind (arith, nat_tests, h);
  small = small (slice_index text at) (grind (arith, nat_tests, h));
  is_other = other (slice_index text at) (grind (arith, nat_tests, h));
  line = λ above. grind (arith, nat_tests, h);
}

-- a later line begins where an item may
pub begins_line_at : (text : List ℕ) (at : ℕ) → 0 < at → is_start text at ≡ true → IsLineStart text at
begins_line_at text at above h = let b = begins text at h in record { above = above; within = b.within; feed = b.line above }

-- a part ends where a character does
pub ends_character : (text : List ℕ) (at : ℕ) → at ≤ length text → IsStop text at → IsCharBoundary text at
ends_character text at within (inl end) = (within, λ l high. absurd (omega (arith, l, end)))
ends_character text at within (inr start) = (within, λ l high. absurd (omega (arith, high, (begins text at start).small)))

-- ---- in what was read

-- a byte of what was read
pub byte_is : (text : List ℕ) (from to at : ℕ) → from ≤ at → at < to → slice_index (slice_range text from to) (at - from) ≡ slice_index text at
byte_is text from to at l m =
    get_or-take (to - from) (drop from text) (at - from) 0 (omega (arith, l, m))
    ∙ get_or-drop from text (at - from) 0
    ∙ ap (λ k. slice_index text k) (omega (arith, l))

-- an item may begin there in what was read, too
pub start_in : (text : List ℕ) (from to at : ℕ) → from ≤ at - 1 → at < to → is_start text at ≡ true → is_start (slice_range text from to) (at - from) ≡ true
unfolding is_start
start_in text from to at l m h =
    let read = slice_range text from to in
    let long : length read ≡ min (to - from) (length text - from) = length-take (to - from) (drop from text) ∙ ap (λ n. min (to - from) n) (length-drop from text) in
    let within : at < length text = grind (arith, nat_tests, h) in
    let inside : at - from < length read = omega (arith, long, within, l, m) in
    let item : begins_item (slice_index read (at - from)) ≡ true = ap begins_item (byte_is text from to at (omega (arith, l)) m) ∙ grind (arith, nat_tests, h) in
    let above : slice_index read (at - from - 1) ≡ slice_index text (at - 1) =
    ap (slice_index read) (omega (arith, l)) ∙ byte_is text from to (at - 1) l (omega (arith, m)) in
    let line : begins_line read (at - from) ≡ true = grind (arith, nat_tests, h, above, l) in
    grind (arith, nat_tests, inside, item, line)
