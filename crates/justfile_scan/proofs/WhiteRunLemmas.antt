-- The loop over a run of white bytes, and what the run implies for later positions.
use Rattle.std.proofs.Common.{◌≡◌, ℕ, ◌+◌, ◌-◌, ◌<◌, ◌≤◌, Bool, true, false, List, [], ◌∷◌, length, get_or, drop, refl, ap, subst, ◌∙◌, ⊎_elim, sym, arith, drop-drop, length-drop}
use Rattle.std.proofs.lemmas.Bool.{cases_lt}
use Rattle.justfile_vocabulary.specs.ByteClass.{class_of}
use Rattle.justfile_model.specs.Lexing.Bytes.{white, line_feed, closes_levels}
use Rattle.justfile_scan.specs.declared.white_run.WhiteRun.{WhiteRun}
use Rattle.justfile_scan.specs.WhiteRun.{IsRunOf}
use Rattle.justfile_scan.proofs.Pieces.{cell}

-- the run so far: from the front, and from each position in it, the result is that of the rest after it
pub record AfterWhite (bs : List ℕ) (at : ℕ) (last : Bool) : Type 0 where
  pub so_far : closes_levels false bs ≡ closes_levels last (drop at bs)
  pub inside : (i : ℕ) → i < at → closes_levels false (drop i bs) ≡ closes_levels last (drop at bs)

pub white_start : (bs : List ℕ) → AfterWhite bs 0 false
white_start bs = record { so_far = refl; inside = λ i l. absurd (omega arith) }

past_white : (bs : List ℕ) (at : ℕ) (last : Bool) → at < length bs → white (class_of (get_or bs at 0)) ≡ true → closes_levels last (drop at bs) ≡ closes_levels (line_feed (class_of (get_or bs at 0))) (drop (at + 1) bs)
unfolding closes_levels
past_white bs at last l h =
    let step : closes_levels last (get_or bs at 0 ∷ drop (at + 1) bs) ≡ closes_levels (line_feed (class_of (get_or bs at 0))) (drop (at + 1) bs) = rw h refl in
    ap (closes_levels last) (cell bs at l) ∙ step

pub white_more : (bs : List ℕ) (at : ℕ) (last : Bool) → AfterWhite bs at last → at < length bs → white (class_of (get_or bs at 0)) ≡ true → AfterWhite bs (at + 1) (line_feed (class_of (get_or bs at 0)))
white_more bs at last t l h =
    record {
      so_far = t.so_far ∙ past_white bs at last l h;
      inside = λ i le.
          ⊎_elim
          (λ before. t.inside i before ∙ past_white bs at last l h)
          (λ here. let e : at ≡ i = omega (arith, le, here) in subst (λ k. closes_levels false (drop k bs) ≡ closes_levels (line_feed (class_of (get_or bs at 0))) (drop (at + 1) bs)) e (past_white bs at false l h))
          (cases_lt i at);
    }

at_other : (bs : List ℕ) (at : ℕ) (last : Bool) → at < length bs → white (class_of (get_or bs at 0)) ≡ false → closes_levels last (drop at bs) ≡ last
unfolding closes_levels
at_other bs at last l h =
    let step : closes_levels last (get_or bs at 0 ∷ drop (at + 1) bs) ≡ last = rw h refl in
    ap (closes_levels last) (cell bs at l) ∙ step

at_none : (bs : List ℕ) (at : ℕ) (last : Bool) → length bs ≤ at → closes_levels last (drop at bs) ≡ false
unfolding closes_levels
at_none bs at last l = none last (drop at bs) (omega (arith, length-drop at bs))
  where
    none : (last : Bool) (xs : List ℕ) → length xs ≤ 0 → closes_levels last xs ≡ false
    none last [] h = refl
    none last (x ∷ xs) h = absurd (omega arith)

pub white_end : (bs : List ℕ) (at : ℕ) (last : Bool) → AfterWhite bs at last → at < length bs → white (class_of (get_or bs at 0)) ≡ false → last ≡ closes_levels false bs
white_end bs at last t l h = sym (t.so_far ∙ at_other bs at last l h)

pub white_all : (bs : List ℕ) (at : ℕ) (last : Bool) → AfterWhite bs at last → length bs ≤ at → false ≡ closes_levels false bs
white_all bs at last t l = sym (t.so_far ∙ at_none bs at last l)

-- the result at each position in a run that ends before another byte
pub run_ends : (bs : List ℕ) (at : ℕ) (last : Bool) → AfterWhite bs at last → at < length bs → white (class_of (get_or bs at 0)) ≡ false → (i : ℕ) → length bs - at < length (drop i bs) → closes_levels false (drop i bs) ≡ last
run_ends bs at last t l h i more = t.inside i (omega (arith, more, l, length-drop i bs)) ∙ at_other bs at last l h

-- and in one that ends with the text
pub run_all : (bs : List ℕ) (at : ℕ) (last : Bool) → AfterWhite bs at last → length bs ≤ at → (i : ℕ) → 0 < length (drop i bs) → closes_levels false (drop i bs) ≡ false
run_all bs at last t l i more = t.inside i (omega (arith, more, l, length-drop i bs)) ∙ at_none bs at last l

-- a run that reaches past some bytes is a run of the text after them
pub run_on : (text : List ℕ) (run : WhiteRun) (n : ℕ) → IsRunOf text run → IsRunOf (drop n text) run
run_on text run n h i more = ap (closes_levels false) (drop-drop i n text) ∙ h (n + i) (subst (λ bs. run.rest_len < length bs) (drop-drop i n text) more)

pub ruleset white_loop = (white_start, white_more, white_end, white_all)
