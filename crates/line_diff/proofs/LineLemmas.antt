-- The first line of a text, and the last.
use Rattle.std.proofs.Common.{◌≡◌, ◌≢◌, ℕ, suc, zero, ◌+◌, ◌<◌, List, [], ◌∷◌, ◌++◌, length, get_or, take, drop, refl, sym, ap, subst, ◌∙◌, arith, add-one, append_assoc, Bor}
use Rattle.std.proofs.lemmas.Bool.{ne_eqb}
use Rattle.std.proofs.lemmas.List.{drop_all, map-append, take_all}
use Rattle.line_diff.specs.Lines.{before_first_line, text_lines, texts_of}

-- a character that is no line feed belongs to the first line
within : (c : ℕ) (text : List ℕ) (lines : List (List ℕ)) → c ≢ 10 → text_lines text ≡ lines → text_lines (c ∷ text) ≡ before_first_line c lines
within c text lines h e = rw (ne_eqb c 10 h) (ap (before_first_line c) e)

at_feed : (c : ℕ) (text : List ℕ) → c ≡ 10 → text_lines (c ∷ text) ≡ (c ∷ []) ∷ text_lines text
at_feed c text e = subst (λ d. text_lines (d ∷ text) ≡ (d ∷ []) ∷ text_lines text) (sym e) refl

-- the text up to its first line feed is its first line
first : (text : List ℕ) (k : ℕ) → k < length text → get_or text k 0 ≡ 10 → ((i : ℕ) → i < k → get_or text i 0 ≢ 10)
    → text_lines text ≡ take (suc k) text ∷ text_lines (drop (suc k) text)
first [] k l e none = absurd (omega arith)
first (c ∷ text) zero l e none = at_feed c text e
first (c ∷ text) (suc k) l e none =
    within c text (take (suc k) text ∷ text_lines (drop (suc k) text)) (none 0 (omega arith))
    (first text k (omega arith) e (λ i h. none (suc i) (omega arith)))

pub first_line : (text : List ℕ) (k : ℕ) → k < length text → get_or text k 0 ≡ 10 → ((i : ℕ) → i < k → get_or text i 0 ≢ 10)
    → text_lines text ≡ take (k + 1) text ∷ text_lines (drop (k + 1) text)
first_line text k l e none = rw add-one (first text k l e none)

-- a text without a line feed is one line
pub last_line : (text : List ℕ) → 0 < length text → ((i : ℕ) → i < length text → get_or text i 0 ≢ 10) → text_lines text ≡ text ∷ []
last_line [] l none = absurd (omega arith)
last_line (c ∷ []) l none = within c [] [] (none 0 l) refl
last_line (c ∷ d ∷ text) l none =
    within c (d ∷ text) ((d ∷ text) ∷ []) (none 0 l) (last_line (d ∷ text) (omega arith) (λ i h. none (suc i) (omega arith)))

-- the whole text, and nothing after it
pub only_line : (text : List ℕ) (n : ℕ) → n ≡ length text → 0 < length text → ((i : ℕ) → i < length text → get_or text i 0 ≢ 10)
    → text_lines text ≡ take n text ∷ text_lines (drop n text)
only_line text n e l none =
    last_line text l none
    ∙ sym (ap (λ (k : ℕ). take k text ∷ text_lines (drop k text)) e
    ∙ ap (λ (l : List ℕ). l ∷ text_lines (drop (length text) text)) (take_all (length text) text (omega arith))
    ∙ ap (λ (l : List ℕ). text ∷ text_lines l) (drop_all (length text) text (omega arith)))

-- one line more, and what is left
pub lines_on : (line rest after : List ℕ) (lines : List (Bor (List ℕ))) (next : Bor (List ℕ)) (all : List (List ℕ)) → texts_of lines ++ text_lines rest ≡ all
    → text_lines rest ≡ line ∷ text_lines after → next.now ≡ line → texts_of (lines ++ next ∷ []) ++ text_lines after ≡ all
lines_on line rest after lines next all h first is =
    ap (λ (l : List (List ℕ)). l ++ text_lines after) (map-append (λ (r : Bor (List ℕ)). r.now) lines (next ∷ []))
    ∙ append_assoc (texts_of lines) (next.now ∷ []) (text_lines after)
    ∙ ap (λ (l : List ℕ). texts_of lines ++ l ∷ text_lines after) is
    ∙ ap (λ (l : List (List ℕ)). texts_of lines ++ l) (sym first)
    ∙ h
