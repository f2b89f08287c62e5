-- In a part of a text that is cut nowhere inside, each token is found without the text after the part. A dedent before blank lines that
-- reach the end of the part would be a cut.
use Rattle.std.proofs.Common.{◌≡◌, ◌≢◌, ◌∙◌, ℕ, zero, suc, ◌+◌, ◌<◌, ◌≤◌, Bool, true, false, cond, eqb, not, ◌&&◌, ◌||◌, List, [], ◌∷◌, ◌++◌, inl, inr, length, get_or, take, drop, Some, None, Ok, refl, sym, ap, subst, arith, append_assoc, length-append, ⊎_elim}
use Rattle.std.specs.List.{flat_map}
use Rattle.std.specs.Str.{IsUtf8}
use Rattle.std.proofs.Math.Seq.{get_or-append_seam}
use Rattle.std.proofs.Math.Bool.{or-false}
use Rattle.std.proofs.lemmas.Bool.{and_parts, false_from_ne_true}
use Rattle.std.proofs.lemmas.Bool.Decides.{nat_tests}
use Rattle.std.proofs.lemmas.List.{drop-append-le, length-take-le, take-append-drop}
use Rattle.std.proofs.lemmas.Str.{IsCharBoundary-after_ascii, IsUtf8-take}
use Rattle.std.proofs.lemmas.List.Sums.{prefix_len-le-length}
use Rattle.justfile_vocabulary.specs.declared.token_kind.TokenKind.{TokenKind}
use Rattle.justfile_vocabulary.specs.declared.token_kind.TokenKind.TheVariants as kinds
use Rattle.justfile_vocabulary.specs.ByteClass.{class_of}
use Rattle.justfile_model.specs.Lexing.Bytes.{blank_len, closes_levels, is_blank, is_line_end, line_feed, white}
use Rattle.justfile_model.specs.Lexing.Modes.{Mode, ends_in_line_feed, is_empty, mode, mode_after, nested, tail_of}
use Rattle.justfile_model.specs.Lexing.Next.{NextToken, at_end_by, begins_blank_line, blanks_or, layout, line_end_token, next, region_by, token_by_class, token_in_region, token_outside_text, token_within_line}
use Rattle.justfile_model.specs.Lexing.SignificantTokens.{is_whitespace}
use Rattle.justfile_model.specs.Lexing.Tok.{Tok}
use Rattle.justfile_model.specs.Trees.Tree.{lexeme}
use Rattle.justfile_model.proofs.Lexing.LexedLaws.{nil}
use Rattle.justfile_model.proofs.Lexing.NextLaws.{token_cut}
use Rattle.justfile_round_trip.proofs.LiteralTexts.FormatScans.{same_front}
use Rattle.justfile_round_trip.proofs.LiteralTexts.LexedModes.{take_front}
use Rattle.justfile_round_trip.proofs.LiteralTexts.Literals.{front_byte}
use Rattle.justfile_round_trip.proofs.Values.TokenFacts.{Runs}
use Rattle.justfile_chunks.specs.Chunks.{IsCut, IsCutAfter, ends_line, line_kind, next_kind}
use Rattle.justfile_chunks.proofs.CutModes.{next_fact, or_none}
use Rattle.justfile_chunks.proofs.FeedTexts.{no_blank_feed, run_within}
use Rattle.justfile_chunks.proofs.PartNext.{ClosesAlike, part_next}
use Rattle.justfile_chunks.proofs.TidyModes.{EndsInFeed, Fed, LevelFact, Tidy, blanks_end}

-- there is no cut inside the part
abbrev pub Uncut : (earlier part later : List Tok) → Type 0
Uncut earlier [] later = Unit {0}
Uncut earlier (t ∷ []) later = Unit {0}
Uncut earlier (t ∷ u ∷ part) later = (IsCut (t ∷ earlier) (u ∷ part ++ later) → ⊥) × Uncut (t ∷ earlier) (u ∷ part) later

same_token : (x y : TokenKind × ℕ) → ◌≡◌ {A = NextToken} (Ok x) (Ok y) → x ≡ y
same_token x y e = cc

pub kind_is : (j k : TokenKind) (i n : ℕ) → ◌≡◌ {A = NextToken} (Ok (j, i)) (Ok (k, n)) → j ≡ k
kind_is j k i n e = ap (λ x. x.0) (same_token (j, i) (k, n) e)

pub len_is : (j k : TokenKind) (i n : ℕ) → ◌≡◌ {A = NextToken} (Ok (j, i)) (Ok (k, n)) → i ≡ n
len_is j k i n e = ap (λ x. x.1) (same_token (j, i) (k, n) e)

-- ---- blank lines outside of levels

record FindsEol (found : NextToken) : Type 0 where
  bytes : ℕ
  is : found ≡ Ok (kinds.Eol, bytes)

module _ (m : Mode) (flat : nested m ≡ false) (outside : m.in_body ≡ false) where
  eol_is : (n : ℕ) → line_end_token m n ≡ Ok (kinds.Eol, n)
  eol_is n = ap (λ b. cond b (Ok (kinds.Whitespace, n)) (Ok (kinds.Eol, n))) flat

  feed_is : (bs : List ℕ) → token_outside_text m (10 ∷ bs) ≡ Ok (kinds.Eol, 1)
  unfolding token_by_class class_of
  feed_is bs = eol_is 1

  return_is : (bs : List ℕ) → token_outside_text m (13 ∷ 10 ∷ bs) ≡ Ok (kinds.Eol, 2)
  unfolding token_by_class class_of
  return_is bs = eol_is 2

  finds_eol : (rest : List ℕ) → is_line_end rest ≡ true → FindsEol (token_outside_text m rest)
  finds_eol [] h = cc
  finds_eol (b ∷ bs) h = by (eqb b 10) refl
    where
      by : (s : Bool) → eqb b 10 ≡ s → FindsEol (token_outside_text m (b ∷ bs))
      by true e = let at : b ≡ 10 = grind (arith, nat_tests) in record { bytes = 1; is = ap (λ x. token_outside_text m (x ∷ bs)) at ∙ feed_is bs }
      by false e =
          let parts = and_parts (eqb b 13) (eqb (get_or bs 0 0) 10) (sym (ap (λ s. s || (eqb b 13 && eqb (get_or bs 0 0) 10)) e) ∙ h) in
          let at : b ≡ 13 = grind (arith, nat_tests) in
          record { bytes = 2; is = (λ i. token_outside_text m (at i ∷ front_byte bs 10 (omega arith) parts.1 i)) ∙ return_is (drop 1 bs) }

  within_line : (rest : List ℕ) → token_within_line m rest ≡ token_outside_text m rest
  unfolding token_within_line
  within_line rest = λ i. token_in_region (region_by (outside i) ((or_none m.openers m.interpolation flat).1 i)) m rest

  within_finds : (rest : List ℕ) → is_line_end rest ≡ true → FindsEol (token_within_line m rest)
  within_finds rest h = subst FindsEol (sym (within_line rest)) (finds_eol rest h)

pub next_start : (m : Mode) (rest : List ℕ) → 0 < length rest → m.line_start ≡ true
    → next m rest ≡ layout m (take (blank_len rest) rest) (drop (blank_len rest) rest) rest
unfolding next
next_start m [] l h = absurd (omega arith)
next_start m (b ∷ bs) l h = rw h refl

next_amid : (m : Mode) (rest : List ℕ) → 0 < length rest → m.line_start ≡ false → next m rest ≡ token_within_line m rest
unfolding next
next_amid m [] l h = absurd (omega arith)
next_amid m (b ∷ bs) l h = rw h refl

layout_closes : (m : Mode) (on following rest : List ℕ) → nested m ≡ false → begins_blank_line following ≡ true → is_empty m.levels ≡ false
    → closes_levels false rest ≡ true
    → layout m on following rest ≡ Ok (kinds.Dedent, 0)
unfolding layout
layout_closes m on following rest a b c d = rw (a, b, c, d) refl

layout_blank : (m : Mode) (on following rest : List ℕ) → nested m ≡ false → begins_blank_line following ≡ true → is_empty m.levels ≡ true
    → layout m on following rest ≡ blanks_or (length on) m rest
unfolding layout
layout_blank m on following rest a b c = rw (a, b, c) refl

some_line_end : (rest : List ℕ) → is_line_end rest ≡ true → 0 < length rest
some_line_end [] h = cc
some_line_end (b ∷ bs) h = omega arith

-- before a blank line, where no level is open, a line end is next, but for whitespace
eol_next : (m : Mode) (rest : List ℕ) (us : List Tok) → m.line_start ≡ true → nested m ≡ false → m.levels ≡ [] → m.in_body ≡ false → 0 < length rest
    → is_line_end (drop (blank_len rest) rest) ≡ true
    → 1 < length us → Runs m rest us → next_kind us ≡ Some kinds.Eol
eol_next m rest [] s flat ls out some h l r = absurd (omega arith)
eol_next m rest (t ∷ []) s flat ls out some h l r = absurd (omega arith)
eol_next m rest (t ∷ u ∷ us) s flat ls out some h l r = by (length (take (blank_len rest) rest)) refl
  where
    found : next m rest ≡ blanks_or (length (take (blank_len rest) rest)) m rest
    found = next_start m rest some s ∙ layout_blank m _ _ rest flat (ap (λ b. b || is_empty (drop (blank_len rest) rest)) h) (ap is_empty ls)

    size : length (take (blank_len rest) rest) ≡ blank_len rest
    size = length-take-le (blank_len rest) rest (prefix_len-le-length is_blank rest)

    first : t.kind ≡ kinds.Eol → next_kind (t ∷ u ∷ us) ≡ Some kinds.Eol
    first e = ap (λ k. cond (is_whitespace k) (next_kind (u ∷ us)) (Some k)) e

    second : t.kind ≡ kinds.Whitespace → u.kind ≡ kinds.Eol → next_kind (t ∷ u ∷ us) ≡ Some kinds.Eol
    second e f = ap (λ k. cond (is_whitespace k) (next_kind (u ∷ us)) (Some k)) e ∙ ap (λ k. cond (is_whitespace k) (next_kind us) (Some k)) f

    by : (n : ℕ) → length (take (blank_len rest) rest) ≡ n → next_kind (t ∷ u ∷ us) ≡ Some kinds.Eol
    by zero e =
        let none : blank_len rest ≡ 0 = sym size ∙ e in
        let f = within_finds m flat out rest (sym (ap (λ n. is_line_end (drop n rest)) none) ∙ h) in
        first (kind_is t.kind kinds.Eol (length t.lexeme) f.bytes (sym r.2 ∙ found ∙ ap (λ n. blanks_or n m rest) e ∙ f.is))
    by (suc n) e =
        let token = sym r.2 ∙ found ∙ ap (λ n. blanks_or n m rest) e in
        let kind : t.kind ≡ kinds.Whitespace = kind_is t.kind kinds.Whitespace (length t.lexeme) (suc n) token in
        let here : length t.lexeme ≡ suc n = len_is t.kind kinds.Whitespace (length t.lexeme) (suc n) token in
        let following : r.0 ≡ drop (blank_len rest) rest = (same_front t.lexeme r.0 (take (blank_len rest) rest) (drop (blank_len rest) rest) (sym r.1
        ∙ sym (take-append-drop (blank_len rest) rest)) (here ∙ sym e)).1 in
        let ended : is_line_end r.0 ≡ true = ap is_line_end following ∙ h in
        let after : Mode = mode_after kinds.Whitespace t m in
        let amid : after.line_start ≡ false = false_from_ne_true (ends_in_line_feed t.lexeme)
        (λ f. blanks_end t.lexeme r.0 f (omega (arith, here), subst (λ x. length t.lexeme ≤ blank_len x) r.1 (omega (arith, here, e, size)))) in
        let f = within_finds after flat out r.0 ended in
        let next_is : next after r.0 ≡ Ok (u.kind, length u.lexeme) = sym (ap (λ k. next (mode_after k t m) r.0) kind) ∙ r.3.2 in
        second kind (kind_is u.kind kinds.Eol (length u.lexeme) f.bytes (sym next_is ∙ next_amid after r.0 (some_line_end r.0 ended) amid ∙ f.is))

-- the text up to a line feed
pub feed_utf8 : (w v : List ℕ) → IsUtf8 (w ++ (10 ∷ v)) → IsUtf8 (w ++ (10 ∷ []))
feed_utf8 w v u =
    let low : get_or (w ++ (10 ∷ v)) (length w) 0 < 128 = omega (arith, get_or-append_seam w 10 v 0) in
    let size : length (w ++ (10 ∷ [])) ≡ length w + 1 = length-append w (10 ∷ []) in
    let front : take (length w + 1) (w ++ (10 ∷ v)) ≡ w ++ (10 ∷ []) =
    (λ i. take (sym size i) (sym (append_assoc w (10 ∷ []) v) i)) ∙ take_front (w ++ (10 ∷ [])) v in
    subst IsUtf8 front (IsUtf8-take (w ++ (10 ∷ v)) (length w + 1) u
    (IsCharBoundary-after_ascii (w ++ (10 ∷ v)) (length w) u (omega (arith, length-append w (10 ∷ v))) low))

-- a text that ends in a line feed, before another one
pub fed_utf8 : (text rest : List ℕ) → EndsInFeed text → IsUtf8 (text ++ rest) → IsUtf8 text
fed_utf8 text rest h u =
    subst IsUtf8 (sym h.is) (feed_utf8 h.front rest (subst IsUtf8 (ap (λ x. x ++ rest) h.is ∙ append_assoc h.front (10 ∷ []) rest) u))

-- ---- the part, and the text and the tokens after it

module _ (v : List ℕ) (later : List Tok) (some : 0 < length v) (more : 0 < length later) where
  closes_more : (last : Bool) (xs : List ℕ) → closes_levels last xs ≡ true → closes_levels last (xs ++ v) ≡ true
  unfolding closes_levels
  closes_more last [] h = cc
  closes_more last (b ∷ bs) h = grind (arith, nat_tests, closes_more (line_feed (class_of b)) bs)

  module _ (t : Tok) (ts earlier : List Tok) (tidy : Tidy earlier) (uncut : Uncut earlier (t ∷ ts) later) (utf8 : IsUtf8 (flat_map lexeme (t ∷ ts) ++ v))
      (run : Runs (mode earlier) (flat_map lexeme (t ∷ ts) ++ v) (t ∷ ts ++ later)) where
    abbrev before : Mode
    before = mode earlier

    -- a cut after the dedent
    cut_there : t.kind ≡ kinds.Dedent → (mode_after t.kind t before).levels ≡ [] → line_kind earlier ≡ None → next_kind (ts ++ later) ≡ Some kinds.Eol
        → IsCutAfter t earlier (ts ++ later)
    cut_there kind none line eol = record {
      ends = ap ends_line kind;
      outside = none;
      no_body = λ e. cc (sym eol ∙ e);
      no_attributes = λ e. cc (sym line ∙ e);
      no_doc = λ e. inr eol;
      goes_on = λ e. cc (sym eol ∙ e);
    }

    never : (us : List Tok) → us ≡ ts → 0 < length us → IsCutAfter t earlier (ts ++ later) → ⊥
    never us e l c = by ts (ap length e) uncut c
      where
        by : (ts : List Tok) → length us ≡ length ts → Uncut earlier (t ∷ ts) later → IsCutAfter t earlier (ts ++ later) → ⊥
        by [] n h c = omega (arith, l, n)
        by (u ∷ ts) n h c = h.0 c

    module _ (w : List ℕ) (is : flat_map lexeme (t ∷ ts) ≡ w ++ (10 ∷ [])) where
      text_is : flat_map lexeme (t ∷ ts) ++ v ≡ w ++ (10 ∷ v)
      text_is = ap (λ x. x ++ v) is ∙ append_assoc w (10 ∷ []) v

      there : 0 < length (w ++ (10 ∷ v))
      there = omega (arith, length-append w (10 ∷ v))

      line_ends : begins_blank_line (drop (blank_len (w ++ (10 ∷ v))) (w ++ (10 ∷ v))) ≡ true
          → is_line_end (drop (blank_len (w ++ (10 ∷ v))) (w ++ (10 ∷ v))) ≡ true
      line_ends h =
          let n = blank_len (w ++ (10 ∷ v)) in
          let following : drop n (w ++ (10 ∷ v)) ≡ drop n w ++ (10 ∷ v) = drop-append-le n w (10 ∷ v) (run_within _ no_blank_feed w v) in
          ap is_line_end following ∙ by (drop n w) (sym (ap begins_blank_line following) ∙ h)
        where
          by : (x : List ℕ) → begins_blank_line (x ++ (10 ∷ v)) ≡ true → is_line_end (x ++ (10 ∷ v)) ≡ true
          by [] h = refl
          by (a ∷ x) h = sym (or-false (is_line_end (a ∷ x ++ (10 ∷ v)))) ∙ h

      -- the level doesn't close before blank lines that reach the end of the part
      no_dedent : (l : List ℕ) → before.levels ≡ l ∷ [] → before.in_body ≡ true → before.line_start ≡ true → nested before ≡ false
          → begins_blank_line (drop (blank_len (w ++ (10 ∷ v))) (w ++ (10 ∷ v))) ≡ true → closes_levels false (w ++ (10 ∷ v)) ≡ true → ⊥
      no_dedent l ls body start flat blank closes =
          let here : Runs before (w ++ (10 ∷ v)) (t ∷ ts ++ later) = subst (λ x. Runs before x (t ∷ ts ++ later)) text_is run in
          let found : next before (w ++ (10 ∷ v)) ≡ Ok (kinds.Dedent, 0) = next_start before (w ++ (10 ∷ v)) there start
          ∙ layout_closes before _ _ (w ++ (10 ∷ v)) flat blank (ap is_empty ls) closes in
          let kind : t.kind ≡ kinds.Dedent = kind_is t.kind kinds.Dedent (length t.lexeme) 0 (sym here.2 ∙ found) in
          let none : t.lexeme ≡ [] = nil (w ++ (10 ∷ v)) t.lexeme (len_is t.kind kinds.Dedent (length t.lexeme) 0 (sym here.2 ∙ found)) in
          let following : here.0 ≡ w ++ (10 ∷ v) = sym (here.1 ∙ ap (λ x. x ++ here.0) none) in
          let rest : Runs (mode_after kinds.Dedent t before) (w ++ (10 ∷ v)) (ts ++ later) = subst
          (λ x. Runs (mode_after kinds.Dedent t before) x (ts ++ later)) following
          (subst (λ k. Runs (mode_after k t before) here.0 (ts ++ later)) kind here.3) in
          let left : 0 < length ts = tokens_left ts (sym (ap (λ x. x ++ flat_map lexeme ts) none) ∙ is) in
          let eol = eol_next (mode_after kinds.Dedent t before) (w ++ (10 ∷ v)) (ts ++ later) start flat (ap tail_of ls) refl there (line_ends blank)
          (omega (arith, length-append ts later, left, more)) rest in
          never ts refl left (cut_there kind (ap (λ k. (mode_after k t before).levels) kind ∙ ap tail_of ls) (tidy.line start flat body) eol)
        where
          tokens_left : (us : List Tok) → flat_map lexeme us ≡ w ++ (10 ∷ []) → 0 < length us
          tokens_left [] e = absurd (omega (arith, ap length e, length-append w (10 ∷ [])))
          tokens_left (u ∷ us) e = omega arith

      closes_alike : ClosesAlike before w v []
      closes_alike = record { alike = λ start flat blank. by before.levels refl tidy.levels start flat blank }
        where
          by : (ls : List (List ℕ)) → before.levels ≡ ls → LevelFact ls before.in_body → before.line_start ≡ true → nested before ≡ false
              → begins_blank_line (drop (blank_len (w ++ (10 ∷ v))) (w ++ (10 ∷ v))) ≡ true
              → (not (is_empty ls) && closes_levels false (w ++ (10 ∷ v))) ≡ (not (is_empty ls) && closes_levels false (w ++ (10 ∷ [])))
          by [] e h start flat blank = refl
          by (l ∷ k ∷ ls) e h start flat blank = absurd h
          by (l ∷ []) e h start flat blank = both _ _ refl refl
            where
              both : (a b : Bool) → closes_levels false (w ++ (10 ∷ v)) ≡ a → closes_levels false (w ++ (10 ∷ [])) ≡ b
                  → closes_levels false (w ++ (10 ∷ v)) ≡ closes_levels false (w ++ (10 ∷ []))
              both true true p q = p ∙ sym q
              both false false p q = p ∙ sym q
              both true false p q = absurd (no_dedent l e h start flat blank p)
              both false true p q = let bad : false ≡ true = sym p ∙ ap (closes_levels false) (sym (append_assoc w (10 ∷ []) v))
                  ∙ closes_more false (w ++ (10 ∷ [])) q in cc

      part_utf8 : IsUtf8 (w ++ (10 ∷ []))
      part_utf8 = feed_utf8 w v (subst IsUtf8 text_is utf8)

      fed_step : next before (flat_map lexeme (t ∷ ts)) ≡ Ok (t.kind, length t.lexeme)
      fed_step =
          ap (next before) is
          ∙ part_next before w v [] refl part_utf8 closes_alike t.kind (length t.lexeme) (sym (ap (next before) text_is) ∙ run.2)
          (omega (arith, ap length is, length-append w (10 ∷ []), length-append t.lexeme (flat_map lexeme ts)))

    empty_step : t.kind ≢ kinds.Eof → flat_map lexeme (t ∷ ts) ≡ [] → next before (flat_map lexeme (t ∷ ts)) ≡ Ok (t.kind, length t.lexeme)
    unfolding next
    empty_step no_eof e =
        let none : length t.lexeme ≡ 0 = omega (arith, ap length e, length-append t.lexeme (flat_map lexeme ts)) in
        let cut = token_cut before (flat_map lexeme (t ∷ ts) ++ v) utf8 t.kind (length t.lexeme) run.2 in
        ⊎_elim (λ l. absurd (omega (arith, l, none))) (λ h. ⊎_elim (λ end. absurd (no_eof end)) (λ d.
        let found : next before (flat_map lexeme (t ∷ ts) ++ v) ≡ Ok (kinds.Dedent, 0) = run.2 ∙ (λ i. Ok (d.0 i, none i)) in
        let f = next_fact before (flat_map lexeme (t ∷ ts) ++ v) kinds.Dedent 0 (omega (arith, length-append (flat_map lexeme (t ∷ ts)) v, some)) found in
        ap (next before) e ∙ ap (λ o. at_end_by o before.levels) (or_none before.openers before.interpolation f.0).1 ∙ closes before.levels d.1
        ∙ (λ i. Ok (sym d.0 i, sym none i))) h) cut.1
      where
        closes : (ls : List (List ℕ)) → 0 < length ls → at_end_by None ls ≡ Ok (kinds.Dedent, 0)
        closes [] l = absurd (omega arith)
        closes (x ∷ ls) l = refl

    pub part_step : t.kind ≢ kinds.Eof → Fed (flat_map lexeme (t ∷ ts)) → next before (flat_map lexeme (t ∷ ts)) ≡ Ok (t.kind, length t.lexeme)
    part_step no_eof (inl e) = empty_step no_eof e
    part_step no_eof (inr h) = fed_step h.front h.is
