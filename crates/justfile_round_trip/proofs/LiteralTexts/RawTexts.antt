-- Text of a body: where it ends before another text, and what it contains.
use Rattle.std.proofs.Common.{◌≡◌, ℕ, zero, suc, Bool, true, false, cond, eqb, ltb, List, [], ◌∷◌, ◌++◌, length, drop, refl, sym, ap, ◌∙◌, subst, arith}
use Rattle.std.specs.Prelude.{◌||◌, not}
use Rattle.std.proofs.lemmas.Bool.{or_parts, false_from_ne_true}
use Rattle.std.proofs.lemmas.Bool.Decides.{nat_tests}
use Rattle.std.proofs.Math.Numerals.{one-add}
use Rattle.justfile_vocabulary.specs.ByteClass.{class_of}
use Rattle.justfile_model.specs.declared.raw_text.RawText.TheVariants as raw_texts
use Rattle.justfile_model.specs.Lexing.Bytes.{blank, line_feed, blank_len, is_line_end, is_interpolation_start, is_interpolation_escape}
use Rattle.justfile_model.specs.Lexing.LiteralText.{pieces_len, hides, ends}
use Rattle.justfile_model.specs.Lexing.Modes.{is_empty}
use Rattle.justfile_model.specs.Lexing.Next.{begins_blank_line}
use Rattle.justfile_model.specs.Printed.Printing.{ends_in_return}
use Rattle.justfile_model.proofs.Lexing.CutLemmas.{is_line_feed}
use Rattle.justfile_round_trip.proofs.LiteralTexts.Inline.{Each}
use Rattle.justfile_round_trip.proofs.RecipeBodies.BodyLines.{IsRaw, blank_byte}

-- the number of bytes of body text at the front, of which the first `n` are hidden
abbrev pub scan : ℕ → List ℕ → ℕ
scan = pieces_len (hides raw_texts.Body) (ends raw_texts.Body)

-- this many braces are at the front
abbrev pub Braces : ℕ → List ℕ → Type 0
Braces zero bs = Unit {0}
Braces (suc n) [] = ⊥
Braces (suc n) (b ∷ bs) = (b ≡ 123) × Braces n bs

pub four_braces : (bs : List ℕ) → is_interpolation_escape bs ≡ true → Braces 4 bs
four_braces (a ∷ b ∷ c ∷ d ∷ bs) h = (grind (arith, nat_tests), (grind (arith, nat_tests), (grind (arith, nat_tests), (grind (arith, nat_tests), tt))))
four_braces _ h = absurd (grind (arith, nat_tests))

three_braces : (b : ℕ) (bs : List ℕ) → Braces 4 (b ∷ bs) → (b ≡ 123) × Braces 3 bs
three_braces b bs h = (h.0, h.1)

-- the scan of a text that doesn't end at its first byte
record Scanned (b : ℕ) (bs : List ℕ) (n : ℕ) (hidden : Bool) : Type 0 where
  hidden_is : is_interpolation_escape (b ∷ bs) ≡ hidden
  following : scan (cond hidden 3 0) bs ≡ n
  goes_on : hidden ≡ false → ends raw_texts.Body (b ∷ bs) ≡ false

scanned : (b : ℕ) (bs : List ℕ) (n : ℕ) → scan 0 (b ∷ bs) ≡ suc n → Scanned b bs n (is_interpolation_escape (b ∷ bs))
unfolding pieces_len
scanned b bs n e = go (is_interpolation_escape (b ∷ bs)) (ends raw_texts.Body (b ∷ bs)) refl refl e
  where
    go : (t s : Bool) → is_interpolation_escape (b ∷ bs) ≡ t → ends raw_texts.Body (b ∷ bs) ≡ s → cond (ltb 0 (cond t 3 0)) (suc (scan (cond t 3 0) bs)) (cond s 0 (suc (scan 0 bs))) ≡ suc n → Scanned b bs n t
    go true s h g e = record { hidden_is = h; following = omega (arith, e); goes_on = λ f. cc }
    go false true h g e = absurd (omega (arith, e))
    go false false h g e = record { hidden_is = h; following = omega (arith, e); goes_on = λ f. g }

-- the scan at an escape, and at another byte
scan_hidden : (b : ℕ) (bs : List ℕ) → is_interpolation_escape (b ∷ bs) ≡ true → scan 0 (b ∷ bs) ≡ suc (scan 3 bs)
unfolding pieces_len
scan_hidden b bs h = rw h refl

scan_on : (b : ℕ) (bs : List ℕ) → is_interpolation_escape (b ∷ bs) ≡ false → ends raw_texts.Body (b ∷ bs) ≡ false → scan 0 (b ∷ bs) ≡ suc (scan 0 bs)
unfolding pieces_len
scan_on b bs h g = rw h (rw g refl)

scan_past : (n : ℕ) (b : ℕ) (bs : List ℕ) → scan (suc n) (b ∷ bs) ≡ suc (scan n bs)
unfolding pieces_len
scan_past n b bs = refl

-- ---- no line feed is in text

abbrev pub NoFeed : List ℕ → Type 0
NoFeed = Each (λ k. not (line_feed k))

brace_no_feed : (b : ℕ) → b ≡ 123 → not (line_feed (class_of b)) ≡ true
unfolding class_of
brace_no_feed b e = ap (λ x. not (line_feed (class_of x))) e

byte_no_feed : (b : ℕ) (bs : List ℕ) → ends raw_texts.Body (b ∷ bs) ≡ false → not (line_feed (class_of b)) ≡ true
byte_no_feed b bs h = grind (arith, nat_tests, is_line_feed b (class_of b) refl)

no_feed_from : (n : ℕ) (t a : List ℕ) → Braces n (t ++ a) → scan n (t ++ a) ≡ length t → NoFeed t
no_feed_from n [] a h e = tt
no_feed_from (suc n) (x ∷ xs) a h e = (brace_no_feed x h.0, no_feed_from n xs a h.1 (omega (arith, e, scan_past n x (xs ++ a))))
no_feed_from zero (x ∷ xs) a h e = go (is_interpolation_escape (x ∷ xs ++ a)) (scanned x (xs ++ a) (length xs) e) (λ n. no_feed_from n xs a)
  where
    go : (t : Bool) → Scanned x (xs ++ a) (length xs) t → ((n : ℕ) → Braces n (xs ++ a) → scan n (xs ++ a) ≡ length xs → NoFeed xs) → NoFeed (x ∷ xs)
    go true s ih = let p = three_braces x (xs ++ a) (four_braces (x ∷ xs ++ a) s.hidden_is) in (brace_no_feed x p.0, ih 3 p.1 s.following)
    go false s ih = (byte_no_feed x (xs ++ a) (s.goes_on refl), ih 0 tt s.following)

pub text_no_feed : (t following : List ℕ) → scan 0 (t ++ following) ≡ length t → NoFeed t
text_no_feed t following e = no_feed_from 0 t following tt e

pub raw_no_feed : (t stop : List ℕ) → IsRaw t stop → NoFeed t
raw_no_feed t stop h = no_feed_from 0 t (stop ++ []) tt (h.ends [])

-- ---- no text directly follows a text

-- a scan doesn't end at a brace that is hidden
short : (n : ℕ) (a : List ℕ) → Braces (suc n) a → scan (suc n) a ≡ 0 → ⊥
short n [] h e = h
short n (x ∷ a) h e = omega (arith, e, scan_past n x a)

rest_from : (n : ℕ) (t following : List ℕ) → Braces n (t ++ following) → scan n (t ++ following) ≡ length t → scan 0 following ≡ 0
rest_from zero [] following h e = e
rest_from (suc n) [] following h e = absurd (short n following h e)
rest_from (suc n) (x ∷ xs) following h e = rest_from n xs following h.1 (omega (arith, e, scan_past n x (xs ++ following)))
rest_from zero (x ∷ xs) following h e = go (is_interpolation_escape (x ∷ xs ++ following)) (scanned x (xs ++ following) (length xs) e) (λ n. rest_from n xs following)
  where
    go : (t : Bool) → Scanned x (xs ++ following) (length xs) t → ((n : ℕ) → Braces n (xs ++ following) → scan n (xs ++ following) ≡ length xs → scan 0 following ≡ 0) → scan 0 following ≡ 0
    go true s ih = ih 3 (three_braces x (xs ++ following) (four_braces (x ∷ xs ++ following) s.hidden_is)).1 s.following
    go false s ih = ih 0 tt s.following

pub text_rest : (t following : List ℕ) → scan 0 (t ++ following) ≡ length t → scan 0 following ≡ 0
text_rest t following e = rest_from 0 t following tt e

-- ---- a line with more than blanks isn't a blank line

no_brace_hides : (b : ℕ) (bs : List ℕ) → eqb b 123 ≡ false → is_interpolation_escape (b ∷ bs) ≡ false
no_brace_hides b bs h = rw h refl

line_no_brace : (b : ℕ) (bs : List ℕ) → is_line_end (b ∷ bs) ≡ true → eqb b 123 ≡ false
line_no_brace b bs h = grind (arith, nat_tests)

-- after a byte that isn't a brace
after_first_byte : (b : ℕ) (bs : List ℕ) (n : ℕ) → eqb b 123 ≡ false → scan 0 (b ∷ bs) ≡ suc n → (ends raw_texts.Body (b ∷ bs) ≡ false) × (scan 0 bs ≡ n)
after_first_byte b bs n h e =
    let s : Scanned b bs n false = subst (Scanned b bs n) (no_brace_hides b bs h) (scanned b bs n e) in
    (s.goes_on refl, s.following)

-- text does not begin with a line end
pub text_no_end : (b : ℕ) (bs : List ℕ) (n : ℕ) → scan 0 (b ∷ bs) ≡ suc n → begins_blank_line (b ∷ bs) ≡ false
text_no_end b bs n e =
    ap (λ t. t || false)
    (false_from_ne_true (is_line_end (b ∷ bs))
    (λ g. let bad : true ≡ false = sym g ∙ (or_parts (is_line_end (b ∷ bs)) (is_interpolation_start (b ∷ bs)) (after_first_byte b bs n (line_no_brace b bs g) e).0).0 in cc))

pub one_more : (b : ℕ) (bs : List ℕ) → blank (class_of b) ≡ true → blank_len (b ∷ bs) ≡ suc (blank_len bs)
one_more b bs h = rw h (one-add (blank_len bs))

none_more : (b : ℕ) (bs : List ℕ) → blank (class_of b) ≡ false → blank_len (b ∷ bs) ≡ 0
none_more b bs h = rw h refl

pub not_blank_line : (t a : List ℕ) → scan 0 (t ++ a) ≡ length t → (is_empty (drop (blank_len t) t) ≡ true → begins_blank_line (drop (blank_len a) a) ≡ false) → begins_blank_line (drop (blank_len (t ++ a)) (t ++ a)) ≡ false
not_blank_line [] a e h = h refl
not_blank_line (x ∷ xs) a e h = go (blank (class_of x)) refl (not_blank_line xs a)
  where
    go : (t : Bool) → blank (class_of x) ≡ t → (scan 0 (xs ++ a) ≡ length xs → (is_empty (drop (blank_len xs) xs) ≡ true → begins_blank_line (drop (blank_len a) a) ≡ false) → begins_blank_line (drop (blank_len (xs ++ a)) (xs ++ a)) ≡ false)
        → begins_blank_line (drop (blank_len (x ∷ xs ++ a)) (x ∷ xs ++ a)) ≡ false
    go true b ih =
        let on = after_first_byte x (xs ++ a) (length xs) (blank_byte x b).0 e in
        subst (λ n. begins_blank_line (drop n (x ∷ xs ++ a)) ≡ false) (sym (one_more x (xs ++ a) b))
        (ih on.1 (λ f. h (ap (λ n. is_empty (drop n (x ∷ xs))) (one_more x xs b) ∙ f)))
    go false b ih = subst (λ n. begins_blank_line (drop n (x ∷ xs ++ a)) ≡ false) (sym (none_more x (xs ++ a) b)) (text_no_end x (xs ++ a) (length xs) e)

-- ---- text that ends before some text ends before the text that is printed after it

-- the last byte doesn't end the text before one text, so it doesn't before the other
module _ (a b : List ℕ) where
  abbrev LastKeeps : List ℕ → Type 0
  LastKeeps [] = Unit {0}
  LastKeeps (c ∷ []) = ends raw_texts.Body (c ∷ a) ≡ false → ends raw_texts.Body (c ∷ b) ≡ false
  LastKeeps (c ∷ d ∷ u) = LastKeeps (d ∷ u)

  last_after : (c : ℕ) (u : List ℕ) → LastKeeps (c ∷ u) → LastKeeps u
  last_after c [] h = tt
  last_after c (d ∷ u) h = h

  same_hidden : (c : ℕ) (u : List ℕ) → Braces 3 (u ++ a) → scan 3 (u ++ a) ≡ length u → is_interpolation_escape (c ∷ u ++ a) ≡ is_interpolation_escape (c ∷ u ++ b)
  same_hidden c [] h e = absurd (short 2 a h e)
  same_hidden c (x ∷ []) h e = absurd (short 1 a h.1 (omega (arith, e, scan_past 2 x a)))
  same_hidden c (x ∷ y ∷ []) h e = absurd (short 0 a h.1.1 (omega (arith, e, scan_past 2 x (y ∷ a), scan_past 1 y a)))
  same_hidden c (x ∷ y ∷ z ∷ u) h e = refl

  keeps_end : (c : ℕ) (u : List ℕ) → LastKeeps (c ∷ u) → ends raw_texts.Body (c ∷ u ++ a) ≡ false → ends raw_texts.Body (c ∷ u ++ b) ≡ false
  keeps_end c [] h e = h e
  keeps_end c (d ∷ u) h e = e

  no_start_hides : (bs : List ℕ) → ends raw_texts.Body bs ≡ false → is_interpolation_escape bs ≡ false
  no_start_hides bs h = rw ((or_parts (is_line_end bs) (is_interpolation_start bs) h).1) refl

  stable : (n : ℕ) (u : List ℕ) → scan 0 b ≡ 0 → LastKeeps u → Braces n (u ++ a) → scan n (u ++ a) ≡ length u → scan n (u ++ b) ≡ length u
  stable zero [] here keeps h e = here
  stable (suc n) [] here keeps h e = absurd (short n a h e)
  stable (suc n) (x ∷ xs) here keeps h e =
      scan_past n x (xs ++ b) ∙ ap suc (stable n xs here (last_after x xs keeps) h.1 (omega (arith, e, scan_past n x (xs ++ a))))
  stable zero (x ∷ xs) here keeps h e = go (is_interpolation_escape (x ∷ xs ++ a)) (scanned x (xs ++ a) (length xs) e) (λ n. stable n xs here (last_after x xs keeps))
    where
      go : (t : Bool) → Scanned x (xs ++ a) (length xs) t → ((n : ℕ) → Braces n (xs ++ a) → scan n (xs ++ a) ≡ length xs → scan n (xs ++ b) ≡ length xs) → scan 0 (x ∷ xs ++ b) ≡ suc (length xs)
      go true s ih =
          let p = three_braces x (xs ++ a) (four_braces (x ∷ xs ++ a) s.hidden_is) in
          scan_hidden x (xs ++ b) (sym (same_hidden x xs p.1 s.following) ∙ s.hidden_is) ∙ ap suc (ih 3 p.1 s.following)
      go false s ih =
          let end = keeps_end x xs keeps (s.goes_on refl) in
          scan_on x (xs ++ b) (no_start_hides (x ∷ xs ++ b) end) end ∙ ap suc (ih 0 tt s.following)

newline_keeps : (a more u : List ℕ) → ends_in_return u ≡ false → LastKeeps a (10 ∷ more) u
newline_keeps a more [] h = tt
newline_keeps a more (c ∷ []) h = λ e. grind (arith, nat_tests)
newline_keeps a more (c ∷ d ∷ u) h = newline_keeps a more (d ∷ u) h

braces_keep : (a more u : List ℕ) → is_interpolation_start a ≡ true → LastKeeps a (123 ∷ 123 ∷ 32 ∷ more) u
braces_keep a more [] h = tt
braces_keep a more (c ∷ []) h = λ e. grind (arith, nat_tests)
braces_keep a more (c ∷ d ∷ u) h = braces_keep a more (d ∷ u) h

newline_ends : (more : List ℕ) → scan 0 (10 ∷ more) ≡ 0
unfolding pieces_len
newline_ends more = refl

braces_end : (more : List ℕ) → scan 0 (123 ∷ 123 ∷ 32 ∷ more) ≡ 0
unfolding pieces_len
braces_end more = refl

-- text that ends in no carriage return ends before a printed line end
pub raw_newline : (t following : List ℕ) → is_empty t ≡ false → scan 0 (t ++ following) ≡ length t → ends_in_return t ≡ false → IsRaw t (10 ∷ [])
raw_newline t following some e h = record { some = some; ends = λ more. stable following (10 ∷ more) 0 t (newline_ends more) (newline_keeps following more t h) tt e }

-- text in front of an interpolation ends before a printed one
pub raw_braces : (t following : List ℕ) → is_empty t ≡ false → scan 0 (t ++ following) ≡ length t → is_interpolation_start following ≡ true → IsRaw t (123 ∷ 123 ∷ 32 ∷ [])
raw_braces t following some e h = record { some = some; ends = λ more. stable following (123 ∷ 123 ∷ 32 ∷ more) 0 t (braces_end more) (braces_keep following more t h) tt e }
