-- The shared prefix of texts and the indentation of lines, computed line by line.
use Rattle.std.proofs.Common.{◌≡◌, ℕ, zero, suc, ◌+◌, ◌<◌, ◌≤◌, Bool, true, false, cond, not, add-one, List, [], ◌∷◌, ◌++◌, map, length, get_or, take, drop, nat_eq, eqb, refl, sym, ap, ◌∙◌, inl, inr, arith, one-add, append_assoc, append-nil, eqb-true, length-append, Some, None, Option, Bor}
use Rattle.std.specs.Prelude.{◌==◌}
use Rattle.std.specs.List.{All, AllByRecursion, zip, common_prefix_len, filter, list_all, prefix_len}
use Rattle.std.specs.Str.{IsCharBoundary, IsUtf8}
use Rattle.std.specs.Option.{MatchOption}
use Rattle.std.proofs.lemmas.Bool.{and_parts, cases_Bool}
use Rattle.std.proofs.lemmas.Bool.Decides.{nat_tests}
use Rattle.std.proofs.lemmas.List.{get_or-map, length-map, get_or_past, map-append, take-append-drop}
use Rattle.std.proofs.lemmas.List.Folds.{list_all-append}
use Rattle.std.proofs.lemmas.List.Sums.{AllPass-from_list_all, prefix_len-le-length, prefix_len_passes}
use Rattle.std.proofs.lemmas.List.Elements.{All-from_recursion}
use Rattle.std.proofs.lemmas.List.Prefix.{front_rest}
use Rattle.std.proofs.lemmas.Str.{IsCharBoundary-start, IsCharBoundary-after_ascii, IsCharBoundary-from_ascii}
use Rattle.justfile_vocabulary.specs.Indentation.{is_space_or_tab}
use Rattle.justfile_model.specs.LiteralTexts.Unindent.{IsFront, IsIndented, is_first, common_front, indentation, is_blank_line, leading_blanks, shared_front}

-- ---- runs of blanks
blank_ascii : (b : ℕ) → is_space_or_tab b ≡ true → b < 128
blank_ascii b h = grind (arith, nat_tests)

-- a text may be cut after the blanks at its front
pub blanks_cut : (bs : List ℕ) → IsUtf8 bs → IsCharBoundary bs (prefix_len is_space_or_tab bs)
blanks_cut bs u = go (prefix_len is_space_or_tab bs) refl
  where
    go : (n : ℕ) → prefix_len is_space_or_tab bs ≡ n → IsCharBoundary bs n
    go zero e = IsCharBoundary-start bs u
    go (suc n) e =
        let fits : suc n ≤ length bs = omega (arith, e, prefix_len-le-length is_space_or_tab bs) in
        rw (← add-one n) (IsCharBoundary-after_ascii bs n u (omega arith) (blank_ascii _ (prefix_len_passes is_space_or_tab bs n 0 (omega (arith, e)))))

-- and a run of blanks anywhere
pub run_cut : (run : List ℕ) (n : ℕ) → list_all is_space_or_tab run ≡ true → n ≤ length run → IsCharBoundary run n
run_cut run n h l = IsCharBoundary-from_ascii run n ascii l
  where
    ascii : (i : ℕ) → get_or run i 0 < 128
    ascii i = grind (arith, AllPass-from_list_all is_space_or_tab run h, get_or_past run, blank_ascii)

pub leading_blank : (line : List ℕ) → list_all is_space_or_tab (leading_blanks line) ≡ true
leading_blank [] = refl
leading_blank (b ∷ bs) = elim (cases_Bool (is_space_or_tab b)) [
  | inl h ↦ rw (h, one-add) (rw h (leading_blank bs))
  | inr h ↦ rw h refl
]

-- the front that two texts share
pub shared_two : (run other : List ℕ) → shared_front run (other ∷ []) ≡ take (common_prefix_len nat_eq run other) run
shared_two [] other = refl
shared_two (b ∷ bs) [] = refl
shared_two (b ∷ bs) (c ∷ cs) = elim (cases_Bool (b == c)) [
  | inl h ↦ rw (h, one-add) (ap (λ t. b ∷ t) (shared_two bs cs))
  | inr h ↦ rw h refl
]

pub shared_blank : (run : List ℕ) (others : List (List ℕ)) → list_all is_space_or_tab run ≡ true → list_all is_space_or_tab (shared_front run others) ≡ true
shared_blank [] others h = refl
shared_blank (b ∷ bs) others h = grind (arith, shared_blank bs (map (drop 1) others))

shared_alone : (run : List ℕ) → shared_front run [] ≡ run
shared_alone [] = refl
shared_alone (b ∷ bs) = ap (λ v. b ∷ v) (shared_alone bs)

-- one more text
pub shared_push : (run : List ℕ) (others : List (List ℕ)) (x : List ℕ) → shared_front run (others ++ x ∷ []) ≡ shared_front (shared_front run others) (x ∷ [])
shared_push [] others x = refl
shared_push (b ∷ bs) others x = grind (arith, list_all-append, map-append, shared_push bs (map (drop 1) others) (drop 1 x))

pub common_push : (kept : List (List ℕ)) (x : List ℕ) → 0 < length kept → common_front (kept ++ x ∷ []) ≡ shared_front (common_front kept) (x ∷ [])
common_push [] x h = absurd (omega arith)
common_push (run ∷ others) x h = shared_push run others x

-- how many bytes two texts begin with alike, by their pairs
pub alike_pairs : (xs ys : List ℕ) → prefix_len (λ p. nat_eq p.0 p.1) (zip xs ys) ≡ common_prefix_len nat_eq xs ys
alike_pairs [] ys = refl
alike_pairs (x ∷ xs) [] = refl
alike_pairs (x ∷ xs) (y ∷ ys) = ap (λ n. cond (eqb x y) (1 + n) 0) (alike_pairs xs ys)

-- ---- what each of the texts begins with
begins_from : (front text rest : List ℕ) → text ≡ front ++ rest → IsFront front text
begins_from front text rest e = e ∙ ap (λ v. front ++ v) (sym (front_rest text front rest e))

each_begins : (texts : List (List ℕ)) → AllByRecursion (IsFront []) texts
each_begins [] = tt
each_begins (text ∷ texts) = (refl, each_begins texts)

-- one byte more in front
begins_more : (b : ℕ) (front : List ℕ) (texts : List (List ℕ)) → list_all (is_first b) texts ≡ true → AllByRecursion (IsFront front) (map (drop 1) texts) → AllByRecursion (IsFront (b ∷ front)) texts
begins_more b front [] h k = tt
begins_more b front ([] ∷ texts) h k = absurd (cc)
begins_more b front ((c ∷ cs) ∷ texts) h k =
    let p = and_parts (b == c) (list_all (is_first b) texts) h in
    ((λ i. sym (eqb-true b c p.0) i ∷ k.0 i), begins_more b front texts p.1 k.1)

first_begins : (run : List ℕ) (others : List (List ℕ)) → IsFront (shared_front run others) run
first_begins [] others = refl
first_begins (b ∷ bs) others = grind (arith, first_begins bs (map (drop 1) others))

others_begin : (run : List ℕ) (others : List (List ℕ)) → AllByRecursion (IsFront (shared_front run others)) others
others_begin [] others = each_begins others
others_begin (b ∷ bs) others = elim (cases_Bool (list_all (is_first b) others)) [
  | inl h ↦ rw h (begins_more b _ others h (others_begin bs (map (drop 1) others)))
  | inr h ↦ rw h (each_begins others)
]

common_begins : (texts : List (List ℕ)) → AllByRecursion (IsFront (common_front texts)) texts
common_begins [] = tt
common_begins (run ∷ others) = (first_begins run others, others_begin run others)

-- ---- the indentation of lines
-- of the lines that are not blank, the leading blanks
abbrev pub kept_blanks : List (List ℕ) → List (List ℕ)
kept_blanks ls = map leading_blanks (filter (λ line. not (is_blank_line line)) ls)

-- one line more
kept_push : (ls : List (List ℕ)) (line : List ℕ) → kept_blanks (ls ++ line ∷ []) ≡ kept_blanks ls ++ cond (is_blank_line line) [] (leading_blanks line ∷ [])
kept_push [] line = grind arith
kept_push (l ∷ ls) line = grind (arith, kept_push ls line)

-- the front that the lines so far share, if one of them is not blank
abbrev pub IsShared : Option (Bor (List ℕ)) → List (List ℕ) → Type 0
IsShared shared ls = MatchOption shared (kept_blanks ls ≡ []) (λ run. (0 < length (kept_blanks ls)) × (run.now ≡ common_front (kept_blanks ls)) × (list_all is_space_or_tab run.now ≡ true))

pub shared_skip : (shared : Option (Bor (List ℕ))) (ls : List (List ℕ)) (line : List ℕ) → is_blank_line line ≡ true → IsShared shared ls → IsShared shared (ls ++ line ∷ [])
shared_skip shared ls line blank h = rw (kept_push ls line, blank, append-nil) h

pub shared_first : (run : Bor (List ℕ)) (ls : List (List ℕ)) (line : List ℕ) → is_blank_line line ≡ false → run.now ≡ leading_blanks line → IsShared None ls → IsShared (Some run) (ls ++ line ∷ [])
shared_first run ls line text is h =
    let blank = ap (list_all is_space_or_tab) is ∙ leading_blank line in
    rw (kept_push ls line, text, h) (omega arith, is ∙ sym (shared_alone (leading_blanks line)), blank)

pub shared_next : (old run : Bor (List ℕ)) (ls : List (List ℕ)) (line : List ℕ) → is_blank_line line ≡ false → run.now ≡ shared_front old.now (leading_blanks line ∷ []) → list_all is_space_or_tab run.now ≡ true → IsShared (Some old) ls
    → IsShared (Some run) (ls ++ line ∷ [])
shared_next old run ls line text is blank h =
    let front = ap (λ v. shared_front v (leading_blanks line ∷ [])) h.1 ∙ sym (common_push (kept_blanks ls) (leading_blanks line) h.0) in
    rw (kept_push ls line, text) (omega (arith, length-append (kept_blanks ls) (leading_blanks line ∷ [])), is ∙ front, blank)

line_begins : (front line : List ℕ) → IsFront front (leading_blanks line) → IsFront front line
line_begins front line h =
    let n : ℕ = prefix_len is_space_or_tab line in
    let rest : List ℕ = drop (length front) (leading_blanks line) in
    begins_from front line (rest ++ drop n line) (sym (take-append-drop n line) ∙ ap (λ v. v ++ drop n line) h ∙ append_assoc front rest (drop n line))

indented : (front : List ℕ) (ls : List (List ℕ)) → AllByRecursion (IsFront front) (kept_blanks ls) → AllByRecursion (IsIndented front) ls
indented front [] h = tt
indented front (line ∷ ls) h = go (is_blank_line line) refl (indented front ls) h
  where
    go : (t : Bool) → is_blank_line line ≡ t → (AllByRecursion (IsFront front) (kept_blanks ls) → AllByRecursion (IsIndented front) ls)
        → AllByRecursion (IsFront front) (map leading_blanks (cond (not t) (line ∷ filter (λ v. not (is_blank_line v)) ls) (filter (λ v. not (is_blank_line v)) ls))) → AllByRecursion (IsIndented front) (line ∷ ls)
    go true e more k = ((λ f. absurd (cc)), more k)
    go false e more k = ((λ f. line_begins front line k.0), more k.1)

-- each line begins with the indentation, but for the blank ones
pub each_indented : (ls : List (List ℕ)) → All (IsIndented (indentation ls)) ls
each_indented ls = All-from_recursion (IsIndented (indentation ls)) ls (indented (indentation ls) ls (common_begins (kept_blanks ls)))

pub all_indented : (lines : List (Bor (List ℕ))) (run : List ℕ) → run ≡ indentation (map (λ line. line.now) lines) → All (λ line. IsIndented run line.now) lines
all_indented lines run e k d l =
    let ls : List (List ℕ) = map (λ line. line.now) lines in
    let each = each_indented ls in
    let at = get_or-map (λ line. line.now) lines k d [] l in
    rw (e, ← at) (each k [] (omega (arith, length-map lines (λ line. line.now))))
