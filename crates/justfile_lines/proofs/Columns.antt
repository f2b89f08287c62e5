-- The line and the column of an offset, from where its line begins.
use Rattle.std.proofs.Common.{◌≡◌, ◌==◌, ℕ, zero, suc, ◌+◌, ◌-◌, ◌<◌, ◌≤◌, List, [], ◌∷◌, ◌++◌, length, take, drop, get_or, cond, refl, sym, ap, subst, ◌∙◌, arith, add-one}
use Rattle.std.specs.List.{sum_by}
use Rattle.std.proofs.lemmas.Bool.{cond-true, cond-false, eq-eqb, le-ltb, lt-ltb}
use Rattle.std.proofs.lemmas.Bool.Decides.{nat_tests}
use Rattle.std.proofs.lemmas.List.{drop_more, get_or-take, length-take-le, take-append-drop, take-take}
use Rattle.std.specs.Str.{IsUtf8}
use Rattle.std.proofs.lemmas.Str.{IsCharBoundary-after_ascii, IsCharBoundary-start}
use Rattle.std.proofs.lemmas.List.Sums.{count_by_more_yes, sum_by-append, sum_by-cons, sum_by-take-drop, sum_by-take-le}
use Rattle.justfile_lines.specs.declared.encoding.Encoding.{Encoding}
use Rattle.justfile_lines.specs.declared.encoding.Encoding.TheVariants.{Utf8, Utf16}
use Rattle.justfile_lines.specs.Positions.{byte_units, column_at, feeds, last_line, line_at, width}
use Rattle.justfile_lines.specs.Starts.{IsStart}

-- a byte counts for two units at most
pub units_bound : (encoding : Encoding) (byte : ℕ) → byte_units encoding byte ≤ 2
units_bound Utf8 byte = omega arith
units_bound Utf16 byte = grind (arith, nat_tests)

-- more of a text has no smaller sum
pub sum_grows : (f : ℕ → ℕ) (text : List ℕ) (i j : ℕ) → i ≤ j → sum_by f (take i text) ≤ sum_by f (take j text)
sum_grows f text i j h =
    let le : sum_by f (take i (take j text)) ≤ sum_by f (take j text) = sum_by-take-le f (take j text) i in
    subst (λ (l : List ℕ). sum_by f l ≤ sum_by f (take j text)) (take-take i j text h) le

pub lines_grow : (text : List ℕ) (i j : ℕ) → i ≤ j → line_at text i ≤ line_at text j
lines_grow text i j h = sum_grows _ text i j h

pub line_at-le : (text : List ℕ) (i : ℕ) → line_at text i ≤ feeds text
line_at-le text i = sum_by-take-le _ text i

-- one line more after a line feed
pub line_after : (text : List ℕ) (i : ℕ) → i < length text → get_or text i 0 ≡ 10 → line_at text (i + 1) ≡ line_at text i + 1
line_after text i h e = count_by_more_yes (λ c. c == 10) text i 0 h (eq-eqb _ 10 e)

pub first_start : (text : List ℕ) → IsUtf8 text → IsStart text 0 0
first_start text u = record { boundary = IsCharBoundary-start text u; line_is = refl; begins = λ lt. absurd (omega arith) }

-- a line begins after a line feed
pub start_after : (text : List ℕ) (i : ℕ) → IsUtf8 text → i < length text → get_or text i 0 ≡ 10 → IsStart text (line_at text i + 1) (i + 1)
start_after text i u h e = record {
  boundary = IsCharBoundary-after_ascii text i u h (omega arith);
  line_is = line_after text i h e;
  begins = λ _. ap (λ n. get_or text n 0) (omega arith) ∙ e;
}

-- the line that begins at an offset is one more than that of the offset before
pub line_before : (text : List ℕ) (line at : ℕ) → IsStart text line at → 0 < at → line_at text (at - 1) + 1 ≡ line
line_before text line at h some =
    let before : at - 1 < length text = omega (arith, h.boundary.0) in
    let e : at - 1 + 1 ≡ at = omega arith in
    sym (line_after text (at - 1) before (h.begins some)) ∙ ap (line_at text) e ∙ h.line_is

pub without_feeds : (text : List ℕ) → feeds text ≡ 0 → last_line text ≡ text
without_feeds [] e = refl
without_feeds (c ∷ text) e = cond-false _ (last_line text) (c ∷ text) (le-ltb 0 (feeds (c ∷ text)) (omega arith))

-- the last line is that of what follows a line feed
pub last_after : (before text : List ℕ) → last_line (before ++ 10 ∷ text) ≡ last_line text
last_after [] text = cond-true _ (last_line text) (10 ∷ text) (lt-ltb 0 (feeds (10 ∷ text)) (omega (arith, sum_by-cons (λ (c : ℕ). cond (c == 10) 1 0) 10 text)))
last_after (c ∷ before) text =
    let f : ℕ → ℕ = λ (c : ℕ). cond (c == 10) 1 0 in
    let all = before ++ 10 ∷ text in
    cond-true _ (last_line all) (c ∷ all)
    (lt-ltb 0 (feeds (c ∷ all)) (omega (arith, sum_by-cons f c all, sum_by-append f before (10 ∷ text), sum_by-cons f 10 text)))
    ∙ last_after before text

after_feed : (before text : List ℕ) → feeds text ≡ 0 → last_line (before ++ 10 ∷ text) ≡ text
after_feed before text e = last_after before text ∙ without_feeds text e

-- what is between the beginning of a line and an offset in it
line_from : (text : List ℕ) (line at offset : ℕ) → IsStart text line at → at ≤ offset → offset ≤ length text → line_at text offset ≡ line
    → last_line (take offset text) ≡ drop at (take offset text)
line_from text line zero offset h le within e = without_feeds _ (e ∙ sym h.line_is)
line_from text line (suc i) offset h le within e =
    let f : ℕ → ℕ = λ (c : ℕ). cond (c == 10) 1 0 in
    let front = take offset text in
    let long : i < length front = omega (arith, length-take-le offset text within) in
    let feed : get_or front i 0 ≡ 10 = get_or-take offset text i 0 (omega arith) ∙ ap (λ n. get_or text n 0) (omega arith) ∙ h.begins (omega arith) in
    let same : feeds (take (suc i) front) ≡ line = ap feeds (take-take (suc i) offset text le) ∙ h.line_is in
    let none : feeds (drop (suc i) front) ≡ 0 = omega (arith, sum_by-take-drop f front (suc i), same, e) in
    let split : front ≡ take i front ++ 10 ∷ drop (suc i) front =
    sym (take-append-drop i front)
    ∙ ap (λ (l : List ℕ). take i front ++ l) (drop_more front i 0 long ∙ ap (λ c. c ∷ drop (i + 1) front) feed ∙ ap (λ n. 10 ∷ drop n front) (add-one i))
    in
    ap last_line split ∙ after_feed (take i front) (drop (suc i) front) none

-- The column of an offset: the units before it are those before its line, and its column.
pub column_from : (encoding : Encoding) (text : List ℕ) (line at offset : ℕ) → IsStart text line at → at ≤ offset → offset ≤ length text → line_at text offset ≡ line
    → width encoding (take at text) + column_at encoding text offset ≡ width encoding (take offset text)
column_from encoding text line at offset h le within e =
    let f = byte_units encoding in
    ap (λ (l : List ℕ). width encoding (take at text) + width encoding l) (line_from text line at offset h le within e)
    ∙ ap (λ (l : List ℕ). width encoding l + width encoding (drop at (take offset text))) (sym (take-take at offset text le))
    ∙ sum_by-take-drop f (take offset text) at

pub column_drop : (encoding : Encoding) (text : List ℕ) (line at offset : ℕ) → IsStart text line at → at ≤ offset → offset ≤ length text → line_at text offset ≡ line
    → width encoding (drop at (take offset text)) ≡ column_at encoding text offset
column_drop encoding text line at offset h le within e = ap (width encoding) (sym (line_from text line at offset h le within e))
