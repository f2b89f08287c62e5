-- The indentation is the longest shared run of blanks, and a text that shares none is unchanged.
use Rattle.std.proofs.Common.{◌≡◌, ℕ, ◌<◌, ◌≤◌, true, false, List, [], ◌∷◌, ◌++◌, map, length, drop, refl, sym, ap, ◌∙◌, subst, inl, inr, arith, one-add}
use Rattle.std.specs.List.{AllByRecursion, list_all, list_any}
use Rattle.std.proofs.lemmas.Bool.{and_parts, cases_Bool, or_parts}
use Rattle.std.proofs.lemmas.List.Elements.{recursion_from_All}
use Rattle.justfile_vocabulary.specs.Indentation.{is_space_or_tab}
use Rattle.justfile_model.specs.LiteralTexts.Unindent.{IsFront, IsIndented, IsLongestRun, is_first, common_front, indentation, is_blank_line, joined, leading_blanks, lines_of_text, shared_front, unindented}
use Rattle.justfile_literal_parts.proofs.JoinedLines.{joined_same}
use Rattle.justfile_literal_parts.proofs.SharedFronts.{each_indented, kept_blanks, leading_blank, shared_blank}
use Rattle.justfile_literal_parts.proofs.TextLines.{lines_whole}

-- ---- the longest front
begins_split : (b c : ℕ) (front text : List ℕ) → IsFront (b ∷ front) (c ∷ text) → (c ≡ b) × IsFront front text
begins_split b c front text h =
    let e : c ∷ text ≡ b ∷ (front ++ drop (length front) text) = h in
    (cc, cc)

-- texts that begin with b and then with the front
heads : (b : ℕ) (front : List ℕ) (texts : List (List ℕ)) → AllByRecursion (IsFront (b ∷ front)) texts → (list_all (is_first b) texts ≡ true) × AllByRecursion (IsFront front) (map (drop 1) texts)
heads b front [] h = (refl, tt)
heads b front ([] ∷ texts) h = absurd (cc)
heads b front ((c ∷ cs) ∷ texts) h = grind (arith, heads b front texts)

shared_longest : (front run : List ℕ) (others : List (List ℕ)) → IsFront front run → AllByRecursion (IsFront front) others → length front ≤ length (shared_front run others)
shared_longest [] run others h k = omega arith
shared_longest (b ∷ front) [] others h k = absurd (cc)
shared_longest (b ∷ front) (c ∷ run) others h k =
    let first = begins_split b c front run h in
    let more = heads b front others k in
    let shared = subst (λ x. list_all (is_first x) others ≡ true) (sym first.0) more.0 in
    rw shared (omega (arith, shared_longest front run (map (drop 1) others) first.1 more.1))

common_longest : (front : List ℕ) (texts : List (List ℕ)) → 0 < length texts → AllByRecursion (IsFront front) texts → length front ≤ length (common_front texts)
common_longest front [] l h = absurd (omega arith)
common_longest front (run ∷ others) l h = shared_longest front run others h.0 h.1

common_blank : (texts : List (List ℕ)) → AllByRecursion (λ text. list_all is_space_or_tab text ≡ true) texts → list_all is_space_or_tab (common_front texts) ≡ true
common_blank [] h = refl
common_blank (run ∷ others) h = shared_blank run others h.0

-- ---- the leading blanks of the lines that are not blank
kept_blank : (ls : List (List ℕ)) → AllByRecursion (λ text. list_all is_space_or_tab text ≡ true) (kept_blanks ls)
kept_blank [] = tt
kept_blank (line ∷ ls) = grind (arith, kept_blank ls, leading_blank line)

kept_none : (ls : List (List ℕ)) → list_all is_blank_line ls ≡ true → kept_blanks ls ≡ []
kept_none [] h = refl
kept_none (line ∷ ls) h = grind (arith, kept_none ls)

kept_some : (ls : List (List ℕ)) → list_all is_blank_line ls ≡ false → 0 < length (kept_blanks ls)
kept_some [] h = absurd (cc)
kept_some (line ∷ ls) h = grind (arith, kept_some ls)

-- a run of blanks at the front of a line is at the front of its leading blanks
blanks_begin : (front line : List ℕ) → list_all is_space_or_tab front ≡ true → IsFront front line → IsFront front (leading_blanks line)
blanks_begin [] line h k = refl
blanks_begin (b ∷ front) [] h k = absurd (cc)
blanks_begin (b ∷ front) (c ∷ line) h k =
    let p = and_parts (is_space_or_tab b) (list_all is_space_or_tab front) h in
    let first = begins_split b c front line k in
    let blank = ap is_space_or_tab first.0 ∙ p.0 in
    rw (blank, one-add) (λ i. first.0 i ∷ blanks_begin front line p.1 first.1 i)

kept_begin : (front : List ℕ) (ls : List (List ℕ)) → list_all is_space_or_tab front ≡ true → AllByRecursion (IsIndented front) ls → AllByRecursion (IsFront front) (kept_blanks ls)
kept_begin front [] h k = tt
kept_begin front (line ∷ ls) h k = elim (cases_Bool (is_blank_line line)) [
  | inl e ↦ rw e (kept_begin front ls h k.1)
  | inr e ↦ rw e (blanks_begin front line h (k.0 e), kept_begin front ls h k.1)
]

pub longest_run : (ls : List (List ℕ)) → IsLongestRun (indentation ls) ls
longest_run ls = record {
  blank = common_blank (kept_blanks ls) (kept_blank ls);
  shared = each_indented ls;
  longest = λ other blank each some. common_longest other (kept_blanks ls) (kept_some ls some) (kept_begin other ls blank (recursion_from_All (IsIndented other) ls each));
  none = λ all. ap common_front (kept_none ls all);
}

-- ---- where nothing is shared
text_lines : (front : List ℕ) (ls : List (List ℕ)) → list_any is_blank_line ls ≡ false → AllByRecursion (IsIndented front) ls → AllByRecursion (IsFront front) ls
text_lines front [] h k = tt
text_lines front (line ∷ ls) h k = let p = or_parts (is_blank_line line) (list_any is_blank_line ls) h in (k.0 p.0, text_lines front ls p.1 k.1)

-- an indentation begins with a blank that all lines begin with
nothing_shared : (ls : List (List ℕ)) (run : List ℕ) → IsLongestRun run ls → list_any is_blank_line ls ≡ false → ((b : ℕ) → is_space_or_tab b ≡ true → list_all (is_first b) ls ≡ false) → run ≡ []
nothing_shared ls [] is h k = refl
nothing_shared ls (b ∷ run) is h k =
    let p = and_parts (is_space_or_tab b) (list_all is_space_or_tab run) is.blank in
    let each = heads b run ls (text_lines (b ∷ run) ls h (recursion_from_All (IsIndented (b ∷ run)) ls is.shared)) in
    let none = k b p.0 in
    absurd (cc)

pub already : (text : List ℕ) → list_any is_blank_line (lines_of_text text) ≡ false → ((b : ℕ) → is_space_or_tab b ≡ true → list_all (is_first b) (lines_of_text text) ≡ false) → unindented text ≡ text
unfolding unindented
already text h k =
    let ls : List (List ℕ) = lines_of_text text in
    ap (λ run. joined run ls) (nothing_shared ls (indentation ls) (longest_run ls) h k) ∙ joined_same ls h ∙ lines_whole text
