-- Up to a line feed, bytes and runs are the same whatever follows it.
use Rattle.std.proofs.Common.{◌≡◌, ◌∙◌, ℕ, zero, suc, ◌+◌, ◌<◌, ◌≤◌, Bool, true, false, cond, eqb, ltb, ◌&&◌, ◌||◌, List, [], ◌∷◌, ◌++◌, length, get_or, refl, sym, ap, arith, ⊎_elim}
use Rattle.std.specs.List.{prefix_len}
use Rattle.std.proofs.Math.Seq.{get_or-append_seam}
use Rattle.std.proofs.Math.Bool.{and-false}
use Rattle.std.proofs.lemmas.Bool.{cases_lt}
use Rattle.std.proofs.lemmas.Bool.Decides.{nat_tests}
use Rattle.justfile_vocabulary.specs.ByteClass.{class_of}
use Rattle.justfile_token.specs.declared.string_kind.StringDelimiter.{StringDelimiter}
use Rattle.justfile_token.specs.declared.string_kind.StringDelimiter.TheVariants as delimiters
use Rattle.justfile_token.specs.StringKind.{escapes}
use Rattle.justfile_model.specs.declared.raw_text.RawText.{RawText}
use Rattle.justfile_model.specs.declared.raw_text.RawText.TheVariants.{Body, Comment, Literal}
use Rattle.justfile_model.specs.Lexing.Bytes.{is_blank, is_name_byte, is_interpolation_end, is_interpolation_escape, is_interpolation_start, is_line_end}
use Rattle.justfile_model.specs.Lexing.LiteralText.{ends, hides, is_delimiter, pieces_len, raw_len}
use Rattle.justfile_model.proofs.Lexing.CutLemmas.{body_no_newline, comment_no_newline, escape_no_newline, no_newline_in_pieces}

-- ---- the first bytes

pub head_same : (w v x : List ℕ) → get_or (w ++ (10 ∷ v)) 0 0 ≡ get_or (w ++ (10 ∷ x)) 0 0
head_same [] v x = refl
head_same (b ∷ w) v x = refl

pub line_end_same : (w v x : List ℕ) → is_line_end (w ++ (10 ∷ v)) ≡ is_line_end (w ++ (10 ∷ x))
line_end_same (a ∷ []) v x = refl
line_end_same _ v x = refl

pub start_same : (w v x : List ℕ) → is_interpolation_start (w ++ (10 ∷ v)) ≡ is_interpolation_start (w ++ (10 ∷ x))
start_same (a ∷ []) v x = refl
start_same _ v x = refl

pub end_same : (w v x : List ℕ) → is_interpolation_end (w ++ (10 ∷ v)) ≡ is_interpolation_end (w ++ (10 ∷ x))
end_same (a ∷ []) v x = refl
end_same _ v x = refl

not_both : (p r s : Bool) → ((p && false) && r) ≡ ((p && false) && s)
not_both p r s = grind (arith, nat_tests)

escape_same : (w v x : List ℕ) → is_interpolation_escape (w ++ (10 ∷ v)) ≡ is_interpolation_escape (w ++ (10 ∷ x))
escape_same (a ∷ []) v x = not_both (eqb a 123) _ _
escape_same (a ∷ b ∷ c ∷ []) v x = refl
escape_same _ v x = refl

delimiter_same : (d : StringDelimiter) (i : Bool) (w v x : List ℕ) → is_delimiter (record { delimiter = d; indented = i }) (w ++ (10 ∷ v))
    ≡ is_delimiter (record { delimiter = d; indented = i }) (w ++ (10 ∷ x))
delimiter_same delimiters.Backtick true (a ∷ []) v x = not_both (eqb a 96) _ _
delimiter_same delimiters.QuoteDouble true (a ∷ []) v x = not_both (eqb a 34) _ _
delimiter_same delimiters.QuoteSingle true (a ∷ []) v x = not_both (eqb a 39) _ _
delimiter_same d false (a ∷ w) v x = refl
delimiter_same d true (a ∷ b ∷ []) v x = refl
delimiter_same d _ _ v x = refl

-- ---- raw text

hides_same : (s : RawText) (w v x : List ℕ) → hides s (w ++ (10 ∷ v)) ≡ hides s (w ++ (10 ∷ x))
hides_same Comment w v x = refl
hides_same Body w v x = ap (λ b. cond b 3 0) (escape_same w v x)
hides_same (Literal k format) [] v x =
    ap (λ t. cond t (cond (format && is_interpolation_escape v) 4 1) (cond (format && false) 3 0)) (and-false (escapes k.delimiter))
    ∙ sym (ap (λ t. cond t (cond (format && is_interpolation_escape x) 4 1) (cond (format && false) 3 0)) (and-false (escapes k.delimiter)))
hides_same (Literal k format) (b ∷ w) v x =
    λ i. cond (escapes k.delimiter && eqb b 92) (cond (format && escape_same w v x i) 4 1) (cond (format && escape_same (b ∷ w) v x i) 3 0)

ends_same : (s : RawText) (w v x : List ℕ) → ends s (w ++ (10 ∷ v)) ≡ ends s (w ++ (10 ∷ x))
ends_same Comment w v x = line_end_same w v x
ends_same Body w v x = λ i. line_end_same w v x i || start_same w v x i
ends_same (Literal k format) w v x = λ i. delimiter_same k.delimiter k.indented w v x i || (format && start_same w v x i)

one_step : (t u : Bool) (a b c d n : ℕ) → (a ≤ n → c ≡ a) → (b ≤ n → d ≡ b) → cond t (suc a) (cond u 0 (suc b)) ≤ suc n
    → cond t (suc c) (cond u 0 (suc d)) ≡ cond t (suc a) (cond u 0 (suc b))
one_step t u a b c d n f g h = grind (arith, nat_tests, f, g)

no_step : (t u : Bool) (a b c d : ℕ) → cond t (suc a) (cond u 0 (suc b)) ≤ 0 → cond t (suc c) (cond u 0 (suc d)) ≡ cond t (suc a) (cond u 0 (suc b))
no_step t u a b c d h = grind (arith, nat_tests)

module _ (s : RawText) where
  abbrev scanned : ℕ → List ℕ → ℕ
  scanned = pieces_len (hides s) (ends s)

  scan_same : (w v x : List ℕ) (n : ℕ) → scanned n (w ++ (10 ∷ v)) ≤ length w → scanned n (w ++ (10 ∷ x)) ≡ scanned n (w ++ (10 ∷ v))
  unfolding pieces_len
  scan_same [] v x (suc n) h = absurd (omega arith)
  scan_same [] v x zero h =
      (λ i. cond (ltb 0 (hides_same s [] x v i)) (suc (scanned (hides s (10 ∷ x)) x)) (cond (ends_same s [] x v i) 0 (suc (scanned 0 x))))
      ∙ no_step (ltb 0 (hides s (10 ∷ v))) (ends s (10 ∷ v)) (scanned (hides s (10 ∷ v)) v) (scanned 0 v) _ _ h
  scan_same (b ∷ w) v x (suc n) h = ap suc (scan_same w v x n (omega arith))
  scan_same (b ∷ w) v x zero h =
      (λ i. cond (ltb 0 (hides_same s (b ∷ w) x v i)) (suc (scanned (hides_same s (b ∷ w) x v i) (w ++ (10 ∷ x))))
      (cond (ends_same s (b ∷ w) x v i) 0 (suc (scanned 0 (w ++ (10 ∷ x))))))
      ∙ one_step (ltb 0 (hides s (b ∷ w ++ (10 ∷ v)))) (ends s (b ∷ w ++ (10 ∷ v))) _ _ _ _ (length w) (scan_same w v x (hides s (b ∷ w ++ (10 ∷ v))))
      (scan_same w v x 0) h

  -- text that is read up to the line feed at the latest is read up to the same place
  pub raw_same : (w v x : List ℕ) → raw_len s (w ++ (10 ∷ v)) ≤ length w → raw_len s (w ++ (10 ∷ x)) ≡ raw_len s (w ++ (10 ∷ v))
  raw_same w v x h = scan_same w v x 0 h

feed_passed : (w v : List ℕ) (n : ℕ) → (length w < n → eqb (get_or (w ++ (10 ∷ v)) (length w) 0) 10 ≡ false) → n ≤ length w
feed_passed w v n h =
    ⊎_elim
    (λ l. let bad : true ≡ false = sym (ap (λ b. eqb b 10) (get_or-append_seam w 10 v 0)) ∙ h l in cc)
    (λ l. omega arith)
    (cases_lt (length w) n)

pub comment_within : (w v : List ℕ) → raw_len Comment (w ++ (10 ∷ v)) ≤ length w
comment_within w v =
    feed_passed w v (raw_len Comment (w ++ (10 ∷ v)))
    (λ l. no_newline_in_pieces (hides Comment) (ends Comment) (λ bs h. cc) comment_no_newline (w ++ (10 ∷ v)) 0 (λ i h. absurd (omega arith)) (length w) l)

pub body_within : (w v : List ℕ) → raw_len Body (w ++ (10 ∷ v)) ≤ length w
body_within w v =
    feed_passed w v (raw_len Body (w ++ (10 ∷ v)))
    (λ l. no_newline_in_pieces (hides Body) (ends Body) escape_no_newline body_no_newline (w ++ (10 ∷ v)) 0 (λ i h. absurd (omega arith)) (length w) l)

-- ---- runs

pub no_blank_feed : is_blank 10 ≡ false
unfolding class_of
no_blank_feed = refl

pub no_word_feed : is_name_byte 10 ≡ false
unfolding class_of
no_word_feed = refl

module _ (p : ℕ → Bool) (stops : p 10 ≡ false) where
  pub run_same : (w v x : List ℕ) → prefix_len p (w ++ (10 ∷ v)) ≡ prefix_len p (w ++ (10 ∷ x))
  run_same [] v x = ap (λ t. cond t (1 + prefix_len p v) 0) stops ∙ sym (ap (λ t. cond t (1 + prefix_len p x) 0) stops)
  run_same (b ∷ w) v x = ap (λ n. cond (p b) (1 + n) 0) (run_same w v x)

  pub run_within : (w v : List ℕ) → prefix_len p (w ++ (10 ∷ v)) ≤ length w
  run_within [] v = let e : cond (p 10) (1 + prefix_len p v) 0 ≡ 0 = ap (λ t. cond t (1 + prefix_len p v) 0) stops in omega (arith, e)
  run_within (b ∷ w) v = let h = run_within w v in grind (arith, nat_tests, h)
