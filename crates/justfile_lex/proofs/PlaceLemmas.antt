-- The position after one more byte.
use Rattle.std.proofs.Common.{◌≡◌, ℕ, zero, suc, ◌+◌, ◌-◌, ◌<◌, ◌≤◌, Bool, true, false, cond, eqb, List, [], ◌∷◌, ◌++◌, length, get_or, take, drop, refl, sym, ap, subst, ◌∙◌, ⊎_elim, arith, length-append, length-drop, get_or-drop}
use Rattle.std.specs.Prelude.{not, reverse}
use Rattle.std.specs.List.{prefix_len, count_by}
use Rattle.std.proofs.lemmas.Bool.{cases_lt, ne_eqb}
use Rattle.std.proofs.lemmas.List.{take_more, take_all, length-take-le, length-take, get_or-take, reverse-append}
use Rattle.std.proofs.lemmas.Bool.Decides.{nat_tests}
use Rattle.std.proofs.lemmas.List.Sums.{count_by_more_yes, count_by_more_no, prefix_len-le-length, prefix_len_passes}
use Rattle.justfile_model.proofs.Lexing.CutLemmas.{ne_from}
use Rattle.justfile_lex.specs.Lexing.{HasNoFeed}
use Rattle.justfile_model.specs.Lexing.Places.{is_line_feed, text_before, last_line_start, line_of_offset, column_at, IsPlace}

abbrev is_other : ℕ → Bool
is_other b = not (is_line_feed b)

abbrev counted : List ℕ → List ℕ
counted text = take (length text - 1) text

start_newline : (xs : List ℕ) (b : ℕ) → is_line_feed b ≡ true → last_line_start (xs ++ b ∷ []) ≡ length xs + 1
unfolding last_line_start
start_newline xs b h =
    let e : prefix_len is_other (reverse (xs ++ b ∷ [])) ≡ 0 = ap (prefix_len is_other) (reverse-append xs (b ∷ [])) ∙ ap (λ v. cond (not v) (1 + prefix_len is_other (reverse xs)) 0) h in
    omega (arith, e, length-append xs (b ∷ []))

start_other : (xs : List ℕ) (b : ℕ) → is_line_feed b ≡ false → last_line_start (xs ++ b ∷ []) ≡ last_line_start xs
unfolding last_line_start
start_other xs b h =
    let e : prefix_len is_other (reverse (xs ++ b ∷ [])) ≡ 1 + prefix_len is_other (reverse xs) = ap (prefix_len is_other) (reverse-append xs (b ∷ [])) ∙ ap (λ v. cond (not v) (1 + prefix_len is_other (reverse xs)) 0) h in
    omega (arith, e, length-append xs (b ∷ []))

start_le : (xs : List ℕ) → last_line_start xs ≤ length xs
unfolding last_line_start
start_le xs = omega arith

before_more : (text : List ℕ) (at : ℕ) → at + 1 < length text → text_before text (at + 1) ≡ text_before text at ++ get_or text at 0 ∷ []
before_more text at l =
    let inside : at < length (counted text) = omega (arith, length-take (length text - 1) text) in
    take_more (counted text) at 0 inside ∙ ap (λ b. text_before text at ++ b ∷ []) (get_or-take (length text - 1) text at 0 (omega arith))

before_same : (text : List ℕ) (at : ℕ) → length text ≤ at + 1 → text_before text (at + 1) ≡ text_before text at
before_same text at l =
    let beyond : length (counted text) ≤ at = omega (arith, length-take (length text - 1) text) in
    take_all (at + 1) (counted text) (omega arith) ∙ sym (take_all at (counted text) beyond)

length_before : (text : List ℕ) (at : ℕ) → at + 1 ≤ length text → length (text_before text at) ≡ at
length_before text at l = length-take-le at (counted text) (omega (arith, length-take (length text - 1) text))

pub place_start : (text : List ℕ) → IsPlace text 0 0 0
unfolding line_of_offset column_at last_line_start
place_start text = record { line_is = refl; column_is = refl; line_within = omega arith; column_within = omega arith }

pub place_newline : (text : List ℕ) (at line column : ℕ) → IsPlace text at line column → at + 1 < length text → get_or text at 0 ≡ 10 → IsPlace text (at + 1) (line + 1) 0
unfolding line_of_offset column_at
place_newline text at line column p l e =
    let inside : at < length (counted text) = omega (arith, length-take (length text - 1) text) in
    let yes : is_line_feed (get_or text at 0) ≡ true = ap is_line_feed e in
    let same : get_or (counted text) at 0 ≡ get_or text at 0 = get_or-take (length text - 1) text at 0 (omega arith) in
    let more = count_by_more_yes is_line_feed (counted text) at 0 inside (ap is_line_feed same ∙ yes) in
    let start = ap last_line_start (before_more text at l) ∙ start_newline (text_before text at) (get_or text at 0) yes in
    let len = length_before text at (omega arith) in
    record {
      line_is = omega (arith, more, p.line_is);
      column_is = omega (arith, start, len);
      line_within = omega (arith, p.line_within);
      column_within = omega arith;
    }

same_line : (text : List ℕ) (at line column : ℕ) → IsPlace text at line column → at < length text → line_of_offset text (at + 1) ≡ line_of_offset text at → last_line_start (text_before text (at + 1)) ≡ last_line_start (text_before text at) → IsPlace text (at + 1) line (column + 1)
unfolding line_of_offset column_at
same_line text at line column p l e s =
    let le : last_line_start (text_before text at) ≤ at = omega (arith, start_le (text_before text at), length_before text at (omega arith)) in
    record {
      line_is = omega (arith, e, p.line_is);
      column_is = omega (arith, s, le, p.column_is);
      line_within = omega (arith, p.line_within);
      column_within = omega (arith, p.column_within);
    }

pub place_other : (text : List ℕ) (at line column : ℕ) → IsPlace text at line column → at < length text → (at + 1 < length text → get_or text at 0 ≡ 10 → ⊥) → IsPlace text (at + 1) line (column + 1)
unfolding line_of_offset
place_other text at line column p l other =
    ⊎_elim
    (λ more.
    let inside : at < length (counted text) = omega (arith, length-take (length text - 1) text) in
    let no : is_line_feed (get_or text at 0) ≡ false = ne_eqb (get_or text at 0) 10 (other more) in
    let same : get_or (counted text) at 0 ≡ get_or text at 0 = get_or-take (length text - 1) text at 0 (omega arith) in
    same_line text at line column p l
    (count_by_more_no is_line_feed (counted text) at 0 inside (ap is_line_feed same ∙ no))
    (ap last_line_start (before_more text at more) ∙ start_other (text_before text at) (get_or text at 0) no))
    (λ last. same_line text at line column p l (ap (count_by is_line_feed) (before_same text at last)) (ap last_line_start (before_same text at last)))
    (cases_lt (at + 1) (length text))

-- bytes without a line feed are on the same line
same_place : (text : List ℕ) (a b line c d : ℕ) → a ≡ b → c ≡ d → IsPlace text a line c → IsPlace text b line d
same_place text a b line c d e f p = subst (λ o. IsPlace text o line d) e (subst (λ o. IsPlace text a line o) f p)

pub place_feedless : (text : List ℕ) (from n line column : ℕ) → IsPlace text from line column → from + n ≤ length text → HasNoFeed (drop from text) n → IsPlace text (from + n) line (column + n)
place_feedless text from zero line column p l free = same_place text _ _ line _ _ (omega arith) (omega arith) p
place_feedless text from (suc n) line column p l free =
    let before = place_feedless text from n line column p (omega (arith, l)) (λ i h. free i (omega (arith, h))) in
    let no_feed : eqb (get_or text (from + n) 0) 10 ≡ false = subst (λ (b : ℕ). eqb b 10 ≡ false) (get_or-drop from text n 0) (free n (omega arith)) in
    same_place text _ _ line _ _ (omega arith) (omega arith) (place_other text (from + n) line (column + n) before (omega (arith, l)) (λ more e. ne_from _ 10 no_feed e))

-- the bytes before the first line feed aren't line feeds
other_is : (b : ℕ) → is_other b ≡ true → eqb b 10 ≡ false
other_is b h = grind (arith, nat_tests)

line_free : (bs : List ℕ) (n : ℕ) → HasNoFeed bs (prefix_len is_other (take n bs))
line_free bs n i l =
    let inside : i < n = omega (arith, l, prefix_len-le-length is_other (take n bs), length-take n bs) in
    subst (λ (b : ℕ). eqb b 10 ≡ false) (get_or-take n bs i 0 inside) (other_is _ (prefix_len_passes is_other (take n bs) i 0 l))

pub line_within : (text : List ℕ) (from n : ℕ) → prefix_len is_other (take n (drop from text)) ≤ n
line_within text from n = omega (arith, prefix_len-le-length is_other (take n (drop from text)), length-take n (drop from text))

pub place_on_line : (text : List ℕ) (from n line column k : ℕ) → IsPlace text from line column → from ≤ length text → k ≡ prefix_len is_other (take n (drop from text)) → IsPlace text (from + k) line (column + k)
place_on_line text from n line column k p l e =
    let fits : from + k ≤ length text = omega (arith, l, e, prefix_len-le-length is_other (take n (drop from text)), length-take n (drop from text), length-drop from text) in
    place_feedless text from k line column p fits (subst (HasNoFeed (drop from text)) (sym e) (line_free (drop from text) n))
