-- In format mode, a literal or a part of one that was lexed ends at the same position before any text that can be printed after it.
use Rattle.std.proofs.Common.{◌≡◌, ℕ, zero, suc, ◌+◌, Bool, true, false, cond, eqb, ltb, List, [], ◌∷◌, ◌++◌, length, get_or, take, drop, refl, sym, ap, ◌∙◌, subst, arith, length-take, take-append-drop}
use Rattle.std.specs.Prelude.{◌&&◌, ◌||◌}
use Rattle.std.proofs.lemmas.Bool.Decides.{nat_tests}
use Rattle.justfile_token.specs.declared.string_kind.StringDelimiter.{StringDelimiter}
use Rattle.justfile_token.specs.declared.string_kind.StringDelimiter.TheVariants as delimiters
use Rattle.justfile_token.specs.declared.string_kind.StringKind.{StringKind}
use Rattle.justfile_token.specs.StringKind.{escapes, kind_of}
use Rattle.justfile_model.specs.declared.raw_text.RawText.TheVariants as raw_texts
use Rattle.justfile_model.specs.Lexing.Bytes.{is_interpolation_start, is_interpolation_end, is_interpolation_escape}
use Rattle.justfile_model.specs.Lexing.LiteralText.{pieces_len, hides, ends, raw_len, is_delimiter}
use Rattle.justfile_model.proofs.Lexing.CutLemmas.{raw_within}
use Rattle.justfile_round_trip.proofs.LiteralTexts.LexedModes.{take_front, drop_front}
use Rattle.justfile_round_trip.proofs.LiteralTexts.Inline.{delimiter_of, closing_of, stop_of, IsPart, assoc3, length3}
use Rattle.justfile_round_trip.proofs.LiteralTexts.Literals.{scan, same_delimiter}

-- ---- one byte

-- the hidden bytes, and whether the text ends here, are the same before both texts
step_stable : (k : StringKind) (x : ℕ) (us vs : List ℕ) (n : ℕ) → hides (raw_texts.Literal k true) (x ∷ us) ≡ hides (raw_texts.Literal k true) (x ∷ vs) → ends (raw_texts.Literal k true) (x ∷ us) ≡ ends (raw_texts.Literal k true) (x ∷ vs)
    → ((hidden : ℕ) → scan k true hidden us ≡ n → scan k true hidden vs ≡ n) → scan k true 0 (x ∷ us) ≡ suc n → scan k true 0 (x ∷ vs) ≡ suc n
unfolding pieces_len
step_stable k x us vs n same_hidden same_end ih e =
    subst (λ q. cond (ltb 0 q) (suc (scan k true q vs)) (cond (ends (raw_texts.Literal k true) (x ∷ vs)) 0 (suc (scan k true 0 vs))) ≡ suc n) same_hidden
    (subst (λ v. cond (ltb 0 h) (suc (scan k true h vs)) (cond v 0 (suc (scan k true 0 vs))) ≡ suc n) same_end (go (ltb 0 h) (ends (raw_texts.Literal k true) (x ∷ us)) e))
  where
    h : ℕ
    h = hides (raw_texts.Literal k true) (x ∷ us)

    go : (t u : Bool) → cond t (suc (scan k true h us)) (cond u 0 (suc (scan k true 0 us))) ≡ suc n → cond t (suc (scan k true h vs)) (cond u 0 (suc (scan k true 0 vs))) ≡ suc n
    go t u e = grind (arith, ih h, ih 0)

-- ---- up to the delimiter

whole_ends : (d : StringDelimiter) (i : Bool) (more : List ℕ) → scan (record { delimiter = d; indented = i }) true 0 (delimiter_of (record { delimiter = d; indented = i }) ++ more) ≡ 0
unfolding pieces_len
whole_ends delimiters.Backtick true more = refl
whole_ends _ true more = refl
whole_ends _ _ more = refl

not_both : (p r s : Bool) → ((p && false) && r) ≡ ((p && false) && s)
not_both p r s = grind arith

-- no brace is in a delimiter
same_escape : (d : StringDelimiter) (i : Bool) (xs a b : List ℕ) → is_interpolation_escape (xs ++ (delimiter_of (record { delimiter = d; indented = i }) ++ a)) ≡ is_interpolation_escape (xs ++ (delimiter_of (record { delimiter = d; indented = i }) ++ b))
same_escape delimiters.Backtick i (x ∷ []) a b = not_both (eqb x 123) _ _
same_escape _ i (x ∷ []) a b = not_both (eqb x 123) _ _
same_escape d i (x ∷ y ∷ z ∷ w ∷ xs) a b = refl
same_escape _ i xs a b = refl

same_start : (d : StringDelimiter) (i : Bool) (x : ℕ) (xs a b : List ℕ) → is_interpolation_start (x ∷ xs ++ (delimiter_of (record { delimiter = d; indented = i }) ++ a)) ≡ is_interpolation_start (x ∷ xs ++ (delimiter_of (record { delimiter = d; indented = i }) ++ b))
same_start d i x [] a b = refl
same_start d i x (y ∷ xs) a b = refl

whole_stable : (k : StringKind) (hidden : ℕ) (inner a b : List ℕ) → scan k true hidden (inner ++ (delimiter_of k ++ a)) ≡ length inner → scan k true hidden (inner ++ (delimiter_of k ++ b)) ≡ length inner
unfolding pieces_len
whole_stable k zero [] a b e = whole_ends k.delimiter k.indented b
whole_stable k (suc n) [] a b e = absurd (omega arith)
whole_stable k (suc n) (x ∷ xs) a b e = ap suc (whole_stable k n xs a b (omega arith))
whole_stable k zero (x ∷ xs) a b e =
    step_stable k x (xs ++ (delimiter_of k ++ a)) (xs ++ (delimiter_of k ++ b)) (length xs)
    (λ j. cond (escapes k.delimiter && eqb x 92) (cond (same_escape k.delimiter k.indented xs a b j) 4 1) (cond (same_escape k.delimiter k.indented (x ∷ xs) a b j) 3 0))
    (λ j. same_delimiter k.delimiter k.indented x xs a b j || same_start k.delimiter k.indented x xs a b j)
    (λ hidden. whole_stable k hidden xs a b) e

-- ---- up to two braces

braces_end : (d : StringDelimiter) (i : Bool) (more : List ℕ) → scan (record { delimiter = d; indented = i }) true 0 (123 ∷ 123 ∷ 32 ∷ more) ≡ 0
unfolding pieces_len
braces_end delimiters.Backtick true more = refl
braces_end _ true more = refl
braces_end _ _ more = refl

-- after one byte: it hides no brace, and is none
braces_one : (k : StringKind) (x : ℕ) (a b : List ℕ) → scan k true 0 (x ∷ 123 ∷ 123 ∷ a) ≡ 1 → scan k true 0 (x ∷ 123 ∷ 123 ∷ 32 ∷ b) ≡ 1
unfolding pieces_len
braces_one k x a b e = go (escapes k.delimiter && eqb x 92) (eqb x 123) (is_interpolation_start a) (eqb (get_or a 0 0) 123) (is_delimiter k (x ∷ 123 ∷ 123 ∷ [])) e
  where
    go : (t p s g d : Bool)
        → cond (ltb 0 (cond t (cond s 4 1) (cond ((p && true) && g) 3 0))) (suc (scan k true (cond t (cond s 4 1) (cond ((p && true) && g) 3 0)) (123 ∷ 123 ∷ a))) (cond (d || (p && true)) 0 (suc (scan k true 0 (123 ∷ 123 ∷ a)))) ≡ 1
        → cond (ltb 0 (cond t 1 (cond ((p && true) && false) 3 0))) (suc (scan k true (cond t 1 (cond ((p && true) && false) 3 0)) (123 ∷ 123 ∷ 32 ∷ b))) (cond (d || (p && true)) 0 (suc (scan k true 0 (123 ∷ 123 ∷ 32 ∷ b)))) ≡ 1
    go true p s g d e = absurd (grind arith)
    go false true s g d e = absurd (grind arith)
    go false false s g true e = absurd (omega arith)
    go false false s g false e = ap suc (braces_end k.delimiter k.indented b)

braces_two : (k : StringKind) (x y : ℕ) (a b : List ℕ) → ((hidden : ℕ) → scan k true hidden (y ∷ 123 ∷ 123 ∷ a) ≡ 1 → scan k true hidden (y ∷ 123 ∷ 123 ∷ 32 ∷ b) ≡ 1)
    → scan k true 0 (x ∷ y ∷ 123 ∷ 123 ∷ a) ≡ 2 → scan k true 0 (x ∷ y ∷ 123 ∷ 123 ∷ 32 ∷ b) ≡ 2
unfolding pieces_len
braces_two k x y a b ih e = by (escapes k.delimiter && eqb x 92) refl (is_interpolation_escape (y ∷ 123 ∷ 123 ∷ a)) refl
  where
    third : ℕ
    third = cond (is_interpolation_escape (x ∷ y ∷ 123 ∷ 123 ∷ [])) 3 0

    no_escape : is_interpolation_escape (y ∷ 123 ∷ 123 ∷ 32 ∷ b) ≡ false
    no_escape = grind (arith, nat_tests)

    alike : hides (raw_texts.Literal k true) (x ∷ y ∷ 123 ∷ 123 ∷ a) ≡ hides (raw_texts.Literal k true) (x ∷ y ∷ 123 ∷ 123 ∷ 32 ∷ b) → scan k true 0 (x ∷ y ∷ 123 ∷ 123 ∷ 32 ∷ b) ≡ 2
    alike h = step_stable k x (y ∷ 123 ∷ 123 ∷ a) (y ∷ 123 ∷ 123 ∷ 32 ∷ b) 1 h refl ih e

    far : (p : ℕ) (q : ℕ) → p ≡ 4 → cond (ltb 0 p) (suc (scan k true p (y ∷ 123 ∷ 123 ∷ a))) q ≡ 2 → ⊥
    far p q h e = let e' : cond (ltb 0 4) (suc (scan k true 4 (y ∷ 123 ∷ 123 ∷ a))) q ≡ 2 = subst (λ p. cond (ltb 0 p) (suc (scan k true p (y ∷ 123 ∷ 123 ∷ a))) q ≡ 2) h e in omega arith

    by : (t : Bool) → (escapes k.delimiter && eqb x 92) ≡ t → (s : Bool) → is_interpolation_escape (y ∷ 123 ∷ 123 ∷ a) ≡ s → scan k true 0 (x ∷ y ∷ 123 ∷ 123 ∷ 32 ∷ b) ≡ 2
    by false h s g = alike (ap (λ t. cond t (cond (is_interpolation_escape (y ∷ 123 ∷ 123 ∷ a)) 4 1) third) h ∙ sym (ap (λ t. cond t (cond (is_interpolation_escape (y ∷ 123 ∷ 123 ∷ 32 ∷ b)) 4 1) third) h))
    by true h false g = alike (ap (λ s. cond (escapes k.delimiter && eqb x 92) (cond s 4 1) third) (g ∙ sym no_escape))
    by true h true g = absurd (far _ _ ((λ j. cond (h j) (cond (g j) 4 1) third)) e)

same_after : (xs a b : List ℕ) → is_interpolation_start (xs ++ (123 ∷ 123 ∷ a)) ≡ is_interpolation_start (xs ++ (123 ∷ 123 ∷ b))
same_after (x ∷ y ∷ xs) a b = refl
same_after _ a b = refl

part_stable : (k : StringKind) (hidden : ℕ) (inner a b : List ℕ) → scan k true hidden (inner ++ (123 ∷ 123 ∷ a)) ≡ length inner → scan k true hidden (inner ++ (123 ∷ 123 ∷ 32 ∷ b)) ≡ length inner
unfolding pieces_len
part_stable k zero [] a b e = braces_end k.delimiter k.indented b
part_stable k (suc n) [] a b e = absurd (omega arith)
part_stable k (suc n) (x ∷ xs) a b e = ap suc (part_stable k n xs a b (omega arith))
part_stable k zero (x ∷ []) a b e = braces_one k x a b e
part_stable k zero (x ∷ y ∷ []) a b e = braces_two k x y a b (λ hidden. part_stable k hidden (y ∷ []) a b) e
part_stable k zero (x ∷ y ∷ z ∷ xs) a b e =
    step_stable k x (y ∷ z ∷ xs ++ (123 ∷ 123 ∷ a)) (y ∷ z ∷ xs ++ (123 ∷ 123 ∷ 32 ∷ b)) (length (y ∷ z ∷ xs))
    (λ j. cond (escapes k.delimiter && eqb x 92) (cond (is_interpolation_start (y ∷ z ∷ []) && same_after xs a (32 ∷ b) j) 4 1) (cond (is_interpolation_start (x ∷ y ∷ []) && same_after (z ∷ xs) a (32 ∷ b) j) 3 0))
    refl
    (λ hidden. part_stable k hidden (y ∷ z ∷ xs) a b) e

-- ---- the braces that were cut off

pub braces_front : (bs : List ℕ) → is_interpolation_start bs ≡ true → bs ≡ 123 ∷ 123 ∷ drop 2 bs
braces_front (x ∷ y ∷ ys) h = let a : x ≡ 123 = grind (arith, nat_tests) in let b : y ≡ 123 = grind (arith, nat_tests) in λ j. a j ∷ b j ∷ ys
braces_front _ h = absurd (grind (arith, nat_tests))

pub closers_front : (bs : List ℕ) → is_interpolation_end bs ≡ true → bs ≡ 125 ∷ 125 ∷ drop 2 bs
closers_front (x ∷ y ∷ ys) h = let a : x ≡ 125 = grind (arith, nat_tests) in let b : y ≡ 125 = grind (arith, nat_tests) in λ j. a j ∷ b j ∷ ys
closers_front _ h = absurd (grind (arith, nat_tests))

pub same_front : (a b c d : List ℕ) → a ++ b ≡ c ++ d → length a ≡ length c → (a ≡ c) × (b ≡ d)
same_front a b c d e n = (sym (take_front a b) ∙ (λ i. take (n i) (e i)) ∙ take_front c d, sym (drop_front a b) ∙ (λ i. drop (n i) (e i)) ∙ drop_front c d)

pub stable_closing : (k : StringKind) (fin : Bool) (inner a b : List ℕ) → scan k true 0 (inner ++ (closing_of k fin ++ a)) ≡ length inner → scan k true 0 (inner ++ (closing_of k fin ++ (stop_of fin ++ b))) ≡ length inner
stable_closing k true inner a b e = whole_stable k 0 inner a b e
stable_closing k false inner a b e = part_stable k 0 inner a b e

-- a part after its front, which ends there
pub part_cut : (k : StringKind) (fin : Bool) (pre after tail : List ℕ) → drop (raw_len (raw_texts.Literal k true) after) after ≡ closing_of k fin ++ tail
    → (l following : List ℕ) → pre ++ after ≡ l ++ following → length pre + raw_len (raw_texts.Literal k true) after + length (closing_of k fin) ≡ length l → IsPart k pre fin l
part_cut k fin pre after tail stop l following split len =
    let within : ℕ = raw_len (raw_texts.Literal k true) after in
    let inner : List ℕ = take within after in
    let fits = raw_within (raw_texts.Literal k true) after in
    let size : length inner ≡ within = omega (arith, length-take within after) in
    let after_is : after ≡ inner ++ (closing_of k fin ++ tail) = sym (take-append-drop within after) ∙ ap (λ t. inner ++ t) stop in
    let whole : pre ++ after ≡ (pre ++ (inner ++ closing_of k fin)) ++ tail = ap (λ t. pre ++ t) after_is ∙ sym (assoc3 pre inner (closing_of k fin) tail) in
    let len' : length l ≡ length (pre ++ (inner ++ closing_of k fin)) = omega (arith, len, size, length3 pre inner (closing_of k fin) (length (closing_of k fin)) refl) in
    let same = same_front l following (pre ++ (inner ++ closing_of k fin)) tail (sym split ∙ whole) len' in
    record {
      inner = inner;
      is = same.0;
      ends = λ more. stable_closing k fin inner tail more (ap (raw_len (raw_texts.Literal k true)) (sym after_is) ∙ sym size);
    }

-- the kind of a format string is that of the first bytes, which are there
start_kind : (d : StringDelimiter) (i : Bool) (inner a b : List ℕ)
    → kind_of ((delimiter_of (record { delimiter = d; indented = i }) ++ (inner ++ (123 ∷ 123 ∷ []))) ++ a) ≡ kind_of ((delimiter_of (record { delimiter = d; indented = i }) ++ (inner ++ (123 ∷ 123 ∷ []))) ++ b)
start_kind d false (x ∷ y ∷ xs) a b = refl
start_kind d _ inner a b = refl

pub start_opens : (k : StringKind) (l a b : List ℕ) → IsPart k (delimiter_of k) false l → kind_of (l ++ a) ≡ kind_of (l ++ b)
start_opens k l a b h = ap (λ t. kind_of (t ++ a)) h.is ∙ start_kind k.delimiter k.indented h.inner a b ∙ sym (ap (λ t. kind_of (t ++ b)) h.is)
