-- Format mode and plain mode agree on a literal.
use Rattle.std.proofs.Common.{◌≡◌, ℕ, zero, suc, ◌+◌, ◌<◌, min, Bool, true, false, cond, eqb, ltb, List, [], ◌∷◌, length, get_or, take, drop, ◌⊎◌, inl, inr, ⊎_elim, refl, sym, ap, ◌∙◌, arith}
use Rattle.std.specs.Prelude.{◌&&◌, ◌||◌, not}
use Rattle.std.proofs.lemmas.Bool.{and_parts, cases_lt, not-true}
use Rattle.std.proofs.lemmas.List.{get_or-drop}
use Rattle.std.proofs.Math.Bool.{or-false}
use Rattle.justfile_token.specs.declared.string_kind.StringDelimiter.{StringDelimiter}
use Rattle.justfile_token.specs.declared.string_kind.StringDelimiter.TheVariants as delimiters
use Rattle.justfile_token.specs.declared.string_kind.StringKind.{StringKind}
use Rattle.justfile_token.specs.StringKind.{quote_of, escapes}
use Rattle.justfile_model.specs.declared.raw_text.RawText.TheVariants as raw_texts
use Rattle.justfile_model.specs.Lexing.Bytes.{is_interpolation_start, is_interpolation_escape}
use Rattle.justfile_model.specs.Lexing.LiteralText.{pieces_len, hides, is_delimiter, raw_len}
use Rattle.justfile_model.proofs.Lexing.CutLemmas.{stops, raw_stops, raw_within}
use Rattle.justfile_round_trip.specs.LiteralModes.{before_start, has_no_start}
use Rattle.justfile_round_trip.proofs.LiteralTexts.Literals.{scan, delimiter_front}
use Rattle.justfile_round_trip.proofs.LiteralTexts.RawTexts.{Braces, four_braces}

-- What is hidden in format mode and is not hidden in plain mode is a brace.
abbrev Hidden : ℕ → ℕ → List ℕ → Type 0
Hidden zero zero bs = Unit {0}
Hidden zero (suc m) bs = ⊥
Hidden (suc n) m [] = Unit {0}
Hidden (suc n) zero (b ∷ bs) = (b ≡ 123) × Hidden n zero bs
Hidden (suc n) (suc m) (b ∷ bs) = Hidden n m bs

no_brace : (d : StringDelimiter) (i : Bool) (bs : List ℕ) → scan (record { delimiter = d; indented = i }) false 0 (123 ∷ bs) ≡ suc (scan (record { delimiter = d; indented = i }) false 0 bs)
unfolding pieces_len
no_brace delimiters.Backtick true bs = refl
no_brace _ true bs = refl
no_brace _ _ bs = refl

-- braces at the front
all_hidden : (n : ℕ) (bs : List ℕ) → Braces n bs → Hidden n 0 bs
all_hidden zero bs h = tt
all_hidden (suc n) [] h = tt
all_hidden (suc n) (b ∷ bs) h = (h.0, all_hidden n bs h.1)

hidden_after : (b : ℕ) (bs : List ℕ) → Hidden 4 0 (b ∷ bs) → (b ≡ 123) × Hidden 3 0 bs
hidden_after b bs h = (h.0, h.1)

-- a backslash hides the first of four braces
escaped_braces : (bs : List ℕ) → Hidden 4 0 bs → Hidden 4 1 bs
escaped_braces [] h = tt
escaped_braces (b ∷ bs) h = h.1

hidden_one : (bs : List ℕ) → Hidden 1 1 bs
hidden_one [] = tt
hidden_one (b ∷ bs) = tt

-- Format mode ends at the first of two ends: that of plain mode, and a `{{` that nothing hides.
abbrev parted : StringKind → ℕ → List ℕ → ℕ
parted k = pieces_len (hides (raw_texts.Literal k true)) is_interpolation_start

one_more : (f p b : ℕ) → f ≡ min p b → suc f ≡ min (suc p) (suc b)
one_more f p b h = omega (arith, h)

no_more : (p b : ℕ) → ((p ≡ 0) ⊎ (b ≡ 0)) → 0 ≡ min p b
no_more p b h = ⊎_elim (λ e. omega (arith, e)) (λ e. omega (arith, e)) h

first_end_from : (k : StringKind) (n m : ℕ) (bs : List ℕ) → Hidden n m bs → scan k true n bs ≡ min (scan k false m bs) (parted k n bs)
unfolding pieces_len
first_end_from k zero (suc m) bs h = absurd h
first_end_from k n m [] h = refl
first_end_from k (suc n) zero (x ∷ bs) h =
    one_more _ _ _ (first_end_from k n 0 bs h.1) ∙ ap (λ p. min p (suc (parted k n bs))) (sym (ap (λ y. scan k false 0 (y ∷ bs)) h.0 ∙ no_brace k.delimiter k.indented bs))
first_end_from k (suc n) (suc m) (x ∷ bs) h = one_more _ _ _ (first_end_from k n m bs h)
first_end_from k zero zero (x ∷ bs) h =
    go (escapes k.delimiter && eqb x 92) (is_interpolation_escape bs) (is_interpolation_escape (x ∷ bs)) (is_delimiter k (x ∷ bs)) (is_interpolation_start (x ∷ bs))
    refl refl refl refl (λ n m. first_end_from k n m bs)
  where
    plain : Bool → Bool → ℕ
    plain t s = cond (ltb 0 (cond t 1 0)) (suc (scan k false (cond t 1 0) bs)) (cond (s || false) 0 (suc (scan k false 0 bs)))

    braces : is_interpolation_escape (x ∷ bs) ≡ true → ((n m : ℕ) → Hidden n m bs → scan k true n bs ≡ min (scan k false m bs) (parted k n bs)) → suc (scan k true 3 bs) ≡ min (scan k false 0 (x ∷ bs)) (suc (parted k 3 bs))
    braces f ih =
        let h = hidden_after x bs (all_hidden 4 (x ∷ bs) (four_braces (x ∷ bs) f)) in
        one_more _ _ _ (ih 3 0 h.1) ∙ ap (λ p. min p (suc (parted k 3 bs))) (sym (ap (λ y. scan k false 0 (y ∷ bs)) h.0 ∙ no_brace k.delimiter k.indented bs))

    go : (t u v s r : Bool) → (escapes k.delimiter && eqb x 92) ≡ t → is_interpolation_escape bs ≡ u → is_interpolation_escape (x ∷ bs) ≡ v → is_delimiter k (x ∷ bs) ≡ s
        → ((n m : ℕ) → Hidden n m bs → scan k true n bs ≡ min (scan k false m bs) (parted k n bs))
        → cond (ltb 0 (cond t (cond u 4 1) (cond v 3 0))) (suc (scan k true (cond t (cond u 4 1) (cond v 3 0)) bs)) (cond (s || r) 0 (suc (scan k true 0 bs)))
        ≡ min (plain t s) (cond (ltb 0 (cond t (cond u 4 1) (cond v 3 0))) (suc (parted k (cond t (cond u 4 1) (cond v 3 0)) bs)) (cond r 0 (suc (parted k 0 bs))))
    go true true v s r et eu ev es ih = one_more _ _ _ (ih 4 1 (escaped_braces bs (all_hidden 4 bs (four_braces bs eu))))
    go true false v s r et eu ev es ih = one_more _ _ _ (ih 1 1 (hidden_one bs))
    go false u true s r et eu ev es ih = braces ev ih ∙ ap (λ p. min p (suc (parted k 3 bs))) (λ i. plain (et i) (es i))
    go false u false true r et eu ev es ih = no_more 0 _ (inl refl)
    go false u false false true et eu ev es ih = no_more _ 0 (inr refl)
    go false u false false false et eu ev es ih = one_more _ _ _ (ih 0 0 tt)

pub first_end : (k : StringKind) (bs : List ℕ) → raw_len (raw_texts.Literal k true) bs ≡ min (raw_len (raw_texts.Literal k false) bs) (before_start k bs)
first_end k bs = first_end_from k 0 0 bs tt

-- ---- where `{{` and the delimiter are

quote_differs : (d : StringDelimiter) → eqb (quote_of d) 123 ≡ false
quote_differs delimiters.Backtick = refl
quote_differs _ = refl

delimiter_no_brace : (k : StringKind) (bs : List ℕ) → is_delimiter k bs ≡ true → eqb (get_or bs 0 0) 123 ≡ false
delimiter_no_brace k bs d = ap (λ xs. eqb (get_or xs 0 0) 123) (delimiter_front k bs d) ∙ quote_differs k.delimiter

start_inside : (bs : List ℕ) (i : ℕ) → is_interpolation_start (drop i bs) ≡ true → i + 1 < length bs
start_inside [] zero h = cc
start_inside [] (suc i) h = cc
start_inside (a ∷ []) zero h = let bad = (and_parts (eqb a 123) false h).1 in cc
start_inside (a ∷ b ∷ bs) zero h = omega arith
start_inside (a ∷ bs) (suc i) h = let ih = start_inside bs i h in omega (arith, ih)

-- a front of the text has the `{{` that end before it ends
start_in_front : (bs : List ℕ) (i n : ℕ) → i + 1 < n → is_interpolation_start (drop i (take n bs)) ≡ is_interpolation_start (drop i bs)
start_in_front bs i zero l = absurd (omega arith)
start_in_front bs zero (suc zero) l = absurd (omega arith)
start_in_front (a ∷ bs) (suc i) (suc n) l = start_in_front bs i n (omega arith)
start_in_front (a ∷ b ∷ bs) zero (suc (suc n)) l = refl
start_in_front _ i n l = refl

no_start_at : (bs : List ℕ) (i : ℕ) → has_no_start bs ≡ true → is_interpolation_start (drop i bs) ≡ false
no_start_at [] zero h = refl
no_start_at [] (suc i) h = refl
no_start_at (b ∷ bs) zero h = not-true (is_interpolation_start (b ∷ bs)) (and_parts (not (is_interpolation_start (b ∷ bs))) (has_no_start bs) h).0
no_start_at (b ∷ bs) (suc i) h = no_start_at bs i (and_parts (not (is_interpolation_start (b ∷ bs))) (has_no_start bs) h).1

-- ---- the two ends

abbrev ends_at : StringKind → Bool → List ℕ → ℕ
ends_at k format bs = raw_len (raw_texts.Literal k format) bs

plain_stops : (k : StringKind) (bs : List ℕ) → ends_at k false bs < length bs → is_delimiter k (drop (ends_at k false bs) bs) ≡ true
plain_stops k bs l = sym (or-false (is_delimiter k (drop (ends_at k false bs) bs))) ∙ raw_stops (raw_texts.Literal k false) bs l

start_there : (k : StringKind) (bs : List ℕ) → before_start k bs < length bs → is_interpolation_start (drop (before_start k bs) bs) ≡ true
start_there k bs l = (stops (hides (raw_texts.Literal k true)) is_interpolation_start bs 0).stop l

-- where format mode doesn't end at a `{{`, plain mode ends there too
pub whole_ends : (k : StringKind) (bs : List ℕ) → is_interpolation_start (drop (raw_len (raw_texts.Literal k true) bs) bs) ≡ false → raw_len (raw_texts.Literal k false) bs ≡ raw_len (raw_texts.Literal k true) bs
whole_ends k bs h =
    ⊎_elim
    (λ less.
    let here : ends_at k true bs ≡ before_start k bs = omega (arith, first_end k bs, less) in
    let there = start_there k bs (omega (arith, less, raw_within (raw_texts.Literal k false) bs)) in
    let bad : true ≡ false = sym (ap (λ i. is_interpolation_start (drop i bs)) here ∙ there) ∙ h in
    cc)
    (λ l. omega (arith, first_end k bs, l))
    (cases_lt (before_start k bs) (ends_at k false bs))

-- if it does, the literal continues in plain mode
pub part_ends : (k : StringKind) (bs : List ℕ) → is_interpolation_start (drop (raw_len (raw_texts.Literal k true) bs) bs) ≡ true → raw_len (raw_texts.Literal k true) bs < raw_len (raw_texts.Literal k false) bs
part_ends k bs h =
    ⊎_elim (λ less. less)
    (λ l.
    let here : ends_at k false bs ≡ ends_at k true bs = omega (arith, first_end k bs, l) in
    let inside = start_inside bs (ends_at k true bs) h in
    let no = delimiter_no_brace k (drop (ends_at k false bs) bs) (plain_stops k bs (omega (arith, here, inside))) in
    let brace = (and_parts (eqb (get_or (drop (ends_at k true bs) bs) 0 0) 123) _ h).0 in
    let bad : true ≡ false = sym (ap (λ i. eqb (get_or (drop i bs) 0 0) 123) here ∙ brace) ∙ no in
    cc)
    (cases_lt (ends_at k true bs) (ends_at k false bs))

-- where plain mode passes no `{{`, format mode ends there too
pub plain_ends : (k : StringKind) (bs : List ℕ) → has_no_start (take (raw_len (raw_texts.Literal k false) bs) bs) ≡ true → raw_len (raw_texts.Literal k true) bs ≡ raw_len (raw_texts.Literal k false) bs
plain_ends k bs none =
    ⊎_elim
    (λ less. absurd (passed (start_there k bs (omega (arith, less, raw_within (raw_texts.Literal k false) bs))) less))
    (λ l. omega (arith, first_end k bs, l))
    (cases_lt (before_start k bs) (ends_at k false bs))
  where
    n : ℕ
    n = ends_at k false bs

    i : ℕ
    i = before_start k bs

    -- it is passed, or the delimiter would be its second brace
    passed : is_interpolation_start (drop i bs) ≡ true → i < n → ⊥
    passed there less =
        ⊎_elim
        (λ l. let bad : true ≡ false = sym (start_in_front bs i n l ∙ there) ∙ no_start_at (take n bs) i none in cc)
        (λ l.
        let at : n ≡ i + 1 = omega (arith, l, less) in
        let no = delimiter_no_brace k (drop n bs) (plain_stops k bs (omega (arith, at, start_inside bs i there))) in
        let brace = (and_parts (eqb (get_or (drop i bs) 0 0) 123) _ there).1 in
        let same : get_or (drop i bs) 1 0 ≡ get_or (drop n bs) 0 0 = get_or-drop i bs 1 0 ∙ ap (λ j. get_or bs j 0) (omega (arith, at)) ∙ sym (get_or-drop n bs 0 0) in
        let bad : true ≡ false = sym brace ∙ ap (λ b. eqb b 123) same ∙ no in
        cc)
        (cases_lt (i + 1) n)
