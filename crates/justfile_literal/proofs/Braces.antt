-- Replacing four braces by two, by the matches of `replace`.
use Rattle.std.proofs.Common.{◌≡◌, ℕ, zero, suc, ◌<◌, ◌≤◌, Bool, true, false, if◌then◌else◌, List, [], ◌∷◌, ◌++◌, length, take, drop, codes, Bor, Option, Some, None, refl, sym, ap, ap₂, ◌∙◌, subst, arith, inl, inr}
use Rattle.std.specs.Str.Pattern.{FindsText, LacksTextAt}
use Rattle.std.specs.Str.Replace.{ReplacesMatches}
use Rattle.std.proofs.lemmas.Bool.Decides.{nat_tests}
use Rattle.justfile_model.specs.Lexing.Bytes.{is_interpolation_escape, is_interpolation_start}
use Rattle.justfile_model.specs.LiteralTexts.Literals.{unescaped_braces, unescaped_from}

abbrev four : List ℕ
four = codes "{{{{"

abbrev two : List ℕ
two = codes "{{"

starts : (bs : List ℕ) → is_interpolation_start bs ≡ true → bs ≡ two ++ drop 2 bs
starts [] h = absurd (grind (arith, nat_tests, h))
starts (a ∷ []) h = absurd (grind (arith, nat_tests, h))
starts (a ∷ b ∷ bs) h =
    let first : a ≡ 123 = grind (arith, nat_tests, h) in
    let second : b ≡ 123 = grind (arith, nat_tests, h) in
    ap₂ (λ x y. x ∷ y ∷ bs) first second

escape_at : (bs : List ℕ) → is_interpolation_escape bs ≡ true → bs ≡ four ++ drop 2 (drop 2 bs)
escape_at bs h =
    let first : is_interpolation_start bs ≡ true = grind (arith, h) in
    let second : is_interpolation_start (drop 2 bs) ≡ true = grind (arith, h) in
    starts bs first ∙ ap (λ l. two ++ l) (starts (drop 2 bs) second)

-- the test fails if there aren't four braces at the front
not_escape : (bs : List ℕ) → LacksTextAt four bs 0 → is_interpolation_escape bs ≡ false
not_escape bs lacks = go (is_interpolation_escape bs) refl
  where
    go : (t : Bool) → is_interpolation_escape bs ≡ t → t ≡ false
    go false e = refl
    go true e = absurd (lacks (drop 2 (drop 2 bs)) (escape_at bs e))

one_kept : (b : ℕ) (bs : List ℕ) → LacksTextAt four (b ∷ bs) 0 → unescaped_braces (b ∷ bs) ≡ b ∷ unescaped_braces bs
one_kept b bs lacks = ap (λ (t : Bool). if t then two ++ unescaped_from 3 bs else b ∷ unescaped_braces bs) (not_escape (b ∷ bs) lacks)

-- the text before the first match is kept
before_match : (s : List ℕ) (a : ℕ) → ((i : ℕ) → i < a → LacksTextAt four s i) → unescaped_braces s ≡ take a s ++ unescaped_braces (drop a s)
before_match s zero lacks = refl
before_match [] (suc a) lacks = refl
before_match (b ∷ bs) (suc a) lacks =
    one_kept b bs (lacks 0 (omega arith)) ∙ ap (λ l. b ∷ l) (before_match bs a (λ i l. lacks (suc i) (omega (arith, l))))

-- a text without a match is kept
no_match : (s : List ℕ) → ((i : ℕ) → i ≤ length s → LacksTextAt four s i) → unescaped_braces s ≡ s
no_match [] lacks = refl
no_match (b ∷ bs) lacks =
    one_kept b bs (lacks 0 (omega arith)) ∙ ap (λ l. b ∷ l) (no_match bs (λ i l. lacks (suc i) (omega (arith, l))))

at_match : (s : List ℕ) (a b : ℕ) → ((i : ℕ) → i < a → LacksTextAt four s i) → drop a s ≡ four ++ drop b s
    → unescaped_braces s ≡ take a s ++ (two ++ unescaped_braces (drop b s))
at_match s a b lacks e = before_match s a lacks ∙ ap (λ l. take a s ++ unescaped_braces l) e

abbrev Finds : Bor (List ℕ) → List ℕ → Option (ℕ × ℕ) → Type 0
Finds p = FindsText p.now

abbrev Keeps : Bor (List ℕ) → Bor (List ℕ) → Type 0
Keeps p q = q.now ≡ p.now

pub replaced : (n : ℕ) (p : Bor (List ℕ)) (s out : List ℕ) → p.now ≡ four → ReplacesMatches Finds Keeps two n p s out → out ≡ unescaped_braces s
replaced zero p s out e h = h.1 ∙ sym (no_match s (subst (λ (l : List ℕ). FindsText l s None) e h.0))
replaced (suc n) p s out e (a, b, q, rest, finds, keeps, inl on, out_is) =
    let found = subst (λ (l : List ℕ). FindsText l s (Some (a, b))) e finds in
    out_is ∙ ap (λ l. take a s ++ (two ++ l)) (replaced n q (drop b s) rest (keeps ∙ e) on.1) ∙ sym (at_match s a b found.0 found.1.split)
replaced (suc n) p s out e (a, b, q, rest, finds, keeps, inr on, out_is) =
    let found = subst (λ (l : List ℕ). FindsText l s (Some (a, b))) e finds in
    absurd (omega (arith, on.0, found.1.ends))
