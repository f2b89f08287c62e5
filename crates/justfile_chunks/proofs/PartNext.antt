-- A token that ends at a line feed or before it is found whatever follows the line feed, unless blanks do, and but for a dedent before blank lines.
use Rattle.std.proofs.Common.{◌≡◌, ◌∙◌, ℕ, zero, suc, ◌+◌, ◌≤◌, Bool, true, false, cond, eqb, not, ◌&&◌, ◌||◌, List, [], ◌∷◌, ◌++◌, length, take, drop, get_or, Option, Some, None, Ok, Err, refl, sym, ap, subst, arith, nat_eq, append_assoc, length-append, length-drop}
use Rattle.std.specs.Prelude.{chars}
use Rattle.std.specs.List.{starts_with}
use Rattle.std.specs.Str.{IsUtf8, bytes_eq}
use Rattle.std.proofs.lemmas.Bool.Decides.{nat_tests}
use Rattle.std.proofs.lemmas.List.{drop-append-le, take-append-le}
use Rattle.std.proofs.lemmas.Str.{chars-append, encodes-chars}
use Rattle.std.proofs.Math.Utf8.{encodes}
use Rattle.std.proofs.Math.Bool.{and-false}
use Rattle.justfile_vocabulary.specs.declared.byte_class.ByteClass.{ByteClass}
use Rattle.justfile_vocabulary.specs.declared.byte_class.ByteClass.TheVariants as classes
use Rattle.justfile_vocabulary.specs.declared.token_kind.TokenKind.{TokenKind}
use Rattle.justfile_vocabulary.specs.declared.token_kind.TokenKind.TheVariants as kinds
use Rattle.justfile_vocabulary.specs.ByteClass.{class_of}
use Rattle.justfile_token.specs.declared.string_kind.StringKind.{StringKind}
use Rattle.justfile_token.specs.StringKind.{delimiter_at, delimiter_len, kind_of, token_kind_of}
use Rattle.justfile_model.specs.declared.open_delimiter.OpenDelimiter.{OpenDelimiter}
use Rattle.justfile_model.specs.declared.raw_text.RawText.TheVariants as raw_texts
use Rattle.justfile_model.specs.Lexing.Bytes.{blank_len, closes_levels, first_char, is_blank, is_interpolation_end, is_interpolation_start, is_mixed, is_name_byte}
use Rattle.justfile_model.specs.Lexing.LexicalFault.{Here, LexicalError}
use Rattle.justfile_model.specs.Lexing.LiteralText.{pieces_len, raw_len}
use Rattle.justfile_model.specs.Lexing.Modes.{Mode, head_of, innermost, is_empty, nested}
use Rattle.justfile_model.specs.Lexing.Next.{NextToken, Region, InText, InInterpolation, OutsideText, begins_blank_line, blanks_or, body_token, brace_by, closing, doubled_token, escaped_line_end, fixed_token, format_kind, is_backtick, is_level, layout, literal_part, literal_token, multibyte_token, next, next_by, opening, other_token, region_by, tested_blanks, text_or, token_by_class, token_in_region, token_within_line, unterminated}
use Rattle.justfile_model.proofs.Lexing.CutLemmas.{is_line_feed}
use Rattle.justfile_chunks.proofs.FeedTexts.{body_within, comment_within, end_same, head_same, line_end_same, no_blank_feed, no_word_feed, raw_same, run_same, run_within, start_same}

-- a token of at most this many bytes is found again
abbrev KeptBy : ℕ → NextToken → NextToken → Type 0
KeptBy limit (Ok x) found = x.1 ≤ limit → found ≡ Ok x
KeptBy limit (Err r) found = Unit {0}

record Kept (limit : ℕ) (x y : NextToken) : Type 0 where
  kept : KeptBy limit x y

module _ (limit : ℕ) where
  itself : (x : NextToken) → Kept limit x x
  itself (Ok x) = record { kept = λ h. refl }
  itself (Err r) = record { kept = tt }

  equal : (x y : NextToken) → y ≡ x → Kept limit x y
  equal x y e = subst (λ z. Kept limit x z) (sym e) (itself x)

  refused : {r : LexicalError} (y : NextToken) → Kept limit (Err r) y
  refused y = record { kept = tt }

  both_refused : (b : Bool) (r s : LexicalError) (y : NextToken) → Kept limit (cond b (Err r) (Err s)) y
  both_refused true r s y = record { kept = tt }
  both_refused _ r s y = record { kept = tt }

  either_if : (b c : Bool) {x y x' y' : NextToken} → b ≡ c → (b ≡ true → Kept limit x x') → (b ≡ false → Kept limit y y')
      → Kept limit (cond b x y) (cond c x' y')
  either_if b c {x} {y} {x'} {y'} e p q = subst (λ t. Kept limit (cond b x y) (cond t x' y')) e (by b p q)
    where
      by : (t : Bool) → (t ≡ true → Kept limit x x') → (t ≡ false → Kept limit y y') → Kept limit (cond t x y) (cond t x' y')
      by true p q = p refl
      by false p q = q refl

  either : (b c : Bool) {x y x' y' : NextToken} → b ≡ c → Kept limit x x' → Kept limit y y' → Kept limit (cond b x y) (cond c x' y')
  either b c e p q = either_if b c e (λ _. p) (λ _. q)

  same : (b : Bool) {x y x' y' : NextToken} → Kept limit x x' → Kept limit y y' → Kept limit (cond b x y) (cond b x' y')
  same b p q = either b b refl p q

  same_len : (k : TokenKind) (n i : ℕ) → i ≡ n → Kept limit (Ok (k, n)) (Ok (k, i))
  same_len k n i e = record { kept = λ h. ap (λ (j : ℕ). Ok (k, j)) e }

  within : (k : TokenKind) (n i : ℕ) → (n ≤ limit → i ≡ n) → Kept limit (Ok (k, n)) (Ok (k, i))
  within k n i f = record { kept = λ h. ap (λ (j : ℕ). Ok (k, j)) (f h) }

-- ---- literals

-- the part of a literal, by the text after its opener
abbrev part_of : StringKind → (format : Bool) → (opener inside : ℕ) → (more ended : TokenKind) → List ℕ → NextToken
part_of k format opener inside more ended following =
    cond (eqb inside (length following)) (Err (Here (unterminated k.delimiter) 0 opener))
    (cond (format && is_interpolation_start (drop inside following)) (Ok (more, opener + inside + 2)) (Ok (ended, opener + inside + delimiter_len k)))

module _ (k : StringKind) (format : Bool) (opener : ℕ) (more ended : TokenKind) where
  inside_of : List ℕ → ℕ
  inside_of following = raw_len (raw_texts.Literal k format) following

  not_whole : (inside : ℕ) (w x : List ℕ) → inside ≤ length w → eqb inside (length (w ++ (10 ∷ x))) ≡ false
  not_whole inside w x h = by (length (w ++ (10 ∷ x))) (length-append w (10 ∷ x))
    where
      by : (n : ℕ) → n ≡ length w + suc (length x) → eqb inside n ≡ false
      by n e = grind (arith, nat_tests)

  starts_alike : (inside : ℕ) (w v x : List ℕ) → inside ≤ length w → is_interpolation_start (drop inside (w ++ (10 ∷ x)))
      ≡ is_interpolation_start (drop inside (w ++ (10 ∷ v)))
  starts_alike inside w v x h =
      ap is_interpolation_start (drop-append-le inside w (10 ∷ x) h) ∙ start_same (drop inside w) x v
      ∙ sym (ap is_interpolation_start (drop-append-le inside w (10 ∷ v) h))

  -- an inside that ends before the line feed
  ends_before : (w v x : List ℕ) → inside_of (w ++ (10 ∷ v)) ≤ length w
      → part_of k format opener (inside_of (w ++ (10 ∷ x))) more ended (w ++ (10 ∷ x))
      ≡ cond (format && is_interpolation_start (drop (inside_of (w ++ (10 ∷ v))) (w ++ (10 ∷ v)))) (Ok (more, opener + inside_of (w ++ (10 ∷ v)) + 2))
      (Ok (ended, opener + inside_of (w ++ (10 ∷ v)) + delimiter_len k))
  unfolding inside_of
  ends_before w v x h =
      let inside = inside_of (w ++ (10 ∷ v)) in
      ap (λ i. part_of k format opener i more ended (w ++ (10 ∷ x))) (raw_same (raw_texts.Literal k format) w v x h)
      ∙ (λ i. cond (not_whole inside w x h i) (Err (Here (unterminated k.delimiter) 0 opener))
      (cond (format && starts_alike inside w v x h i) (Ok (more, opener + inside + 2)) (Ok (ended, opener + inside + delimiter_len k))))

  delimiter_some : (b : Bool) → 1 ≤ cond b 3 1
  delimiter_some b = grind (arith, nat_tests)

  following_kept : (w v x : List ℕ) → Kept (opener + suc (length w)) (part_of k format opener (inside_of (w ++ (10 ∷ v))) more ended (w ++ (10 ∷ v)))
      (part_of k format opener (inside_of (w ++ (10 ∷ x))) more ended (w ++ (10 ∷ x)))
  following_kept w v x =
      by (eqb inside (length (w ++ (10 ∷ v)))) (format && is_interpolation_start (drop inside (w ++ (10 ∷ v)))) refl
    where
      inside : ℕ
      inside = inside_of (w ++ (10 ∷ v))

      by : (b c : Bool) → (format && is_interpolation_start (drop inside (w ++ (10 ∷ v)))) ≡ c
          → Kept (opener + suc (length w)) (cond b (Err (Here (unterminated k.delimiter) 0 opener))
          (cond c (Ok (more, opener + inside + 2)) (Ok (ended, opener + inside + delimiter_len k))))
          (part_of k format opener (inside_of (w ++ (10 ∷ x))) more ended (w ++ (10 ∷ x)))
      by true c e = refused (opener + suc (length w)) _
      by false true e = record {
        kept = λ h.
            ends_before w v x (omega (arith, h)) ∙ ap (λ t. cond t (Ok (more, opener + inside + 2)) (Ok (ended, opener + inside + delimiter_len k))) e;
      }
      by false false e = record {
        kept = λ h.
            ends_before w v x (omega (arith, h, delimiter_some k.indented)) ∙ ap (λ t. cond t (Ok (more, opener + inside + 2))
            (Ok (ended, opener + inside + delimiter_len k))) e;
      }

  part_kept : (w v x : List ℕ) → opener ≤ length w → Kept (suc (length w)) (literal_part k format opener more ended (w ++ (10 ∷ v)))
      (literal_part k format opener more ended (w ++ (10 ∷ x)))
  unfolding literal_part inside_of
  part_kept w v x h =
      let f = λ (y : List ℕ). drop-append-le opener w (10 ∷ y) h in
      let size : opener + suc (length (drop opener w)) ≡ suc (length w) = omega (arith, length-drop opener w) in
      subst (λ n. Kept n (literal_part k format opener more ended (w ++ (10 ∷ v))) (literal_part k format opener more ended (w ++ (10 ∷ x)))) size
      (subst (λ t. Kept (opener + suc (length (drop opener w))) (part_of k format opener (inside_of t) more ended t)
      (literal_part k format opener more ended (w ++ (10 ∷ x)))) (sym (f v))
      (subst (λ t. Kept (opener + suc (length (drop opener w))) (part_of k format opener (inside_of (drop opener w ++ (10 ∷ v))) more ended
      (drop opener w ++ (10 ∷ v))) (part_of k format opener (inside_of t) more ended t)) (sym (f x))
      (following_kept (drop opener w) v x)))

-- ---- a token that doesn't begin with the line feed

module _ (m : Mode) (b : ℕ) (bs v x : List ℕ) (stops : blank_len x ≡ 0) where
  abbrev whole : List ℕ
  whole = b ∷ bs ++ (10 ∷ v)

  abbrev other : List ℕ
  other = b ∷ bs ++ (10 ∷ x)

  abbrev limit : ℕ
  limit = suc (suc (length bs))

  abbrev KeptHere : NextToken → NextToken → Type 0
  KeptHere = Kept limit

  second : (c : ℕ) → eqb (get_or whole 1 0) c ≡ eqb (get_or other 1 0) c
  second c = ap (λ x. eqb x c) (head_same bs v x)

  twice_kept : (c : ℕ) (k : TokenKind) → KeptHere (doubled_token c k whole) (doubled_token c k other)
  twice_kept c k = either limit (eqb (get_or whole 1 0) c) (eqb (get_or other 1 0) c) (second c) (itself limit _)
      (both_refused limit (eqb (length (drop 1 whole)) 0) _ _ _)

  fixed_kept : KeptHere (fixed_token b whole) (fixed_token b other)
  unfolding fixed_token
  fixed_kept =
      let by = λ (c : ℕ). second c in
      same limit (eqb b 33) (either limit _ _ (by 61) (itself limit _) (either limit _ _ (by 126) (itself limit _) (itself limit _)))
      (same limit (eqb b 38) (twice_kept 38 kinds.AmpersandAmpersand)
      (same limit (eqb b 124) (twice_kept 124 kinds.BarBar)
      (same limit (eqb b 43) (either limit _ _ (by 43) (itself limit _) (itself limit _))
      (same limit (eqb b 61) (either limit _ _ (by 61) (itself limit _) (either limit _ _ (by 126) (itself limit _) (itself limit _)))
      (same limit (eqb b 58) (either limit _ _ (by 61) (itself limit _) (either limit _ _ (by 58) (itself limit _) (itself limit _)))
      (same limit (eqb b 36) (itself limit _)
      (same limit (eqb b 42) (itself limit _)
      (same limit (eqb b 44) (itself limit _)
      (same limit (eqb b 47) (itself limit _)
      (same limit (eqb b 63) (itself limit _)
      (same limit (eqb b 64) (itself limit _) (refused limit _))))))))))))

  opening_kept : KeptHere (opening b whole) (opening b other)
  opening_kept = same limit (eqb b 40) (itself limit _) (same limit (eqb b 91) (itself limit _) (same limit (eqb b 123) (itself limit _) (refused limit _)))

  two_bytes : is_interpolation_end whole ≡ true → 2 ≤ length (b ∷ bs)
  two_bytes h = by bs h
    where
      by : (cs : List ℕ) → is_interpolation_end (b ∷ cs ++ (10 ∷ v)) ≡ true → 2 ≤ length (b ∷ cs)
      by [] h = let bad : false ≡ true = sym (and-false (eqb b 125)) ∙ h in cc
      by (c ∷ cs) h = omega arith

  brace_kept : (f : Option StringKind) (o : Option OpenDelimiter) → KeptHere (brace_by f o whole) (brace_by f o other)
  brace_kept None o = itself limit _
  brace_kept (Some k) o =
      either_if limit (is_interpolation_end whole) (is_interpolation_end other) (end_same (b ∷ bs) v x)
      (λ h. part_kept k true 2 kinds.FormatStringContinue kinds.FormatStringEnd (b ∷ bs) v x (two_bytes h)) (λ _. itself limit _)

  closing_kept : (o : Option OpenDelimiter) → KeptHere (closing o b whole) (closing o b other)
  closing_kept o = same limit (eqb b 41) (itself limit _) (same limit (eqb b 93) (itself limit _)
      (same limit (eqb b 125) (brace_kept (format_kind o) o) (refused limit _)))

  -- three quotes are before the line feed
  abbrev tripled : List ℕ → List ℕ → Bool
  tripled cs y = eqb (get_or (cs ++ (10 ∷ y)) 0 0) b && eqb (get_or (cs ++ (10 ∷ y)) 1 0) b

  tripled_same : (cs : List ℕ) → eqb 10 b ≡ false → (tripled cs v ≡ tripled cs x) × (cond (tripled cs v) 3 1 ≤ suc (length cs))
  tripled_same [] e = (grind (arith, nat_tests), grind (arith, nat_tests))
  tripled_same (c ∷ []) e = (refl, grind (arith, nat_tests))
  tripled_same (c ∷ d ∷ ds) e = (refl, grind (arith, nat_tests))

  literal_kept : class_of b ≡ classes.Quote → KeptHere (literal_token m whole) (literal_token m other)
  literal_kept e =
      let t = tripled_same bs (no_feed (is_line_feed b classes.Quote e)) in
      let kind : kind_of whole ≡ kind_of other = ap (λ i. record { delimiter = delimiter_at b; indented = i }) t.0 in
      subst (λ k. KeptHere (literal_token m whole) (literal_part k (m.after_f && not (is_backtick k.delimiter)) (delimiter_len k) kinds.FormatStringStart
      (token_kind_of k.delimiter) other)) kind
      (part_kept (kind_of whole) _ (delimiter_len (kind_of whole)) kinds.FormatStringStart _ (b ∷ bs) v x t.1)
    where
      no_feed : eqb b 10 ≡ false → eqb 10 b ≡ false
      no_feed h = grind (arith, nat_tests)

  -- the text up to the line feed
  abbrev front : List ℕ
  front = b ∷ bs ++ (10 ∷ [])

  first_is : IsUtf8 front → (y : List ℕ) → first_char (b ∷ bs ++ (10 ∷ y)) ≡ first_char front
  first_is u y =
      ap first_char (sym (append_assoc (b ∷ bs) (10 ∷ []) y)) ∙ ap (λ cs. get_or cs 0 0) (chars-append front y u) ∙ by (chars front) (encodes-chars front u)
    where
      by : (cs : List ℕ) → encodes cs ≡ front → get_or (cs ++ chars y) 0 0 ≡ get_or cs 0 0
      by [] e = absurd (omega (arith, ap length e))
      by (c ∷ cs) e = refl

  multibyte_kept : IsUtf8 front → KeptHere (multibyte_token whole) (multibyte_token other)
  multibyte_kept u = either limit (eqb (first_char whole) 65279) (eqb (first_char other) 65279)
      (ap (λ c. eqb c 65279) (first_is u v ∙ sym (first_is u x))) (itself limit _)
      (refused limit _)

  escaped_kept : KeptHere (escaped_line_end whole) (escaped_line_end other)
  escaped_kept = by bs
    where
      none : (i n : ℕ) → (i + n ≤ i) → i + blank_len x ≡ i + n
      none i n h = omega (arith, stops)

      by : (cs : List ℕ) → Kept (suc (suc (length cs))) (escaped_line_end (b ∷ cs ++ (10 ∷ v))) (escaped_line_end (b ∷ cs ++ (10 ∷ x)))
      by [] = within 2 kinds.Whitespace (2 + blank_len v) (2 + blank_len x) (none 2 (blank_len v))
      by (c ∷ []) =
          same 3 (eqb c 10) (same_len 3 kinds.Whitespace (2 + blank_len (10 ∷ v)) _ (ap (λ n. 2 + n) (run_same is_blank no_blank_feed [] x v)))
          (same 3 (eqb c 13) (within 3 kinds.Whitespace (3 + blank_len v) (3 + blank_len x) (none 3 (blank_len v))) (both_refused 3 (eqb (length (c ∷ 10 ∷ v)) 0) _ _ _))
      by (c ∷ d ∷ ds) =
          let l = suc (suc (suc (suc (length ds)))) in
          same l (eqb c 10) (same_len l kinds.Whitespace (2 + blank_len (d ∷ ds ++ (10 ∷ v))) _
          (ap (λ n. 2 + n) (run_same is_blank no_blank_feed (d ∷ ds) x v)))
          (same l (eqb c 13) (same l (eqb d 10) (same_len l kinds.Whitespace (3 + blank_len (ds ++ (10 ∷ v))) _
          (ap (λ n. 3 + n) (run_same is_blank no_blank_feed ds x v))) (refused l _))
          (both_refused l (eqb (length (c ∷ d ∷ ds ++ (10 ∷ v))) 0) _ _ _))

  other_kept : KeptHere (other_token whole) (other_token other)
  other_kept =
      same limit (eqb b 35) (same_len limit kinds.Comment _ _ (raw_same raw_texts.Comment (b ∷ bs) v x (comment_within (b ∷ bs) v)))
      (same limit (eqb b 92) escaped_kept (refused limit _))

  by_class : IsUtf8 front → (k : ByteClass) → class_of b ≡ k → KeptHere (token_by_class m k whole) (token_by_class m k other)
  unfolding token_by_class
  by_class u classes.Blank e = same_len limit kinds.Whitespace _ _ (run_same is_blank no_blank_feed (b ∷ bs) x v)
  by_class u classes.LineFeed e = itself limit _
  by_class u classes.CarriageReturn e = either limit _ _ (second 10) (itself limit _) (refused limit _)
  by_class u classes.IdentifierStart e = same_len limit kinds.Identifier _ _ (run_same is_name_byte no_word_feed (b ∷ bs) x v)
  by_class u classes.IdentifierContinue e = refused limit _
  by_class u classes.Quote e = literal_kept e
  by_class u classes.Opener e = opening_kept
  by_class u classes.Closer e = closing_kept (head_of m.openers)
  by_class u classes.Fixed e = fixed_kept
  by_class u classes.Lead e = multibyte_kept u
  by_class u classes.Other e = other_kept

  body_same : body_token other ≡ body_token whole
  unfolding body_token
  body_same = ap (λ n. text_or n b) (raw_same raw_texts.Body (b ∷ bs) v x (body_within (b ∷ bs) v))

  in_region : IsUtf8 front → (r : Region) → KeptHere (token_in_region r m whole) (token_in_region r m other)
  in_region u InText = equal limit _ _ body_same
  in_region u InInterpolation =
      either limit (is_empty m.openers && is_interpolation_end whole) (is_empty m.openers && is_interpolation_end other)
      (ap (λ t. is_empty m.openers && t) (end_same (b ∷ bs) v x)) (itself limit _)
      (by_class u (class_of b) refl)
  in_region u OutsideText = by_class u (class_of b) refl

-- ---- any token

feed_region : (m : Mode) (v x : List ℕ) (r : Region) → token_in_region r m (10 ∷ x) ≡ token_in_region r m (10 ∷ v)
unfolding token_by_class body_token class_of pieces_len
feed_region m v x InText = refl
feed_region m v x InInterpolation = refl
feed_region m v x OutsideText = refl

within_line_kept : (m : Mode) (w v x : List ℕ) → blank_len x ≡ 0 → IsUtf8 (w ++ (10 ∷ [])) → Kept (suc (length w)) (token_within_line m (w ++ (10 ∷ v)))
    (token_within_line m (w ++ (10 ∷ x)))
unfolding token_within_line
within_line_kept m [] v x s u = equal 1 _ _ (feed_region m v x (region_by m.in_body m.interpolation))
within_line_kept m (b ∷ bs) v x s u = in_region m b bs v x s u (region_by m.in_body m.interpolation)

-- levels close with the one text after the line feed as with the other
pub record ClosesAlike (m : Mode) (w v x : List ℕ) : Type 0 where
  pub alike : m.line_start ≡ true → nested m ≡ false → begins_blank_line (drop (blank_len (w ++ (10 ∷ v))) (w ++ (10 ∷ v))) ≡ true
      → (not (is_empty m.levels) && closes_levels false (w ++ (10 ∷ v))) ≡ (not (is_empty m.levels) && closes_levels false (w ++ (10 ∷ x)))

module _ (m : Mode) (w v x : List ℕ) (stops : blank_len x ≡ 0) (u : IsUtf8 (w ++ (10 ∷ []))) where
  blanks_kept : (n : ℕ) → Kept (suc (length w)) (blanks_or n m (w ++ (10 ∷ v))) (blanks_or n m (w ++ (10 ∷ x)))
  blanks_kept zero = within_line_kept m w v x stops u
  blanks_kept (suc n) = itself (suc (length w)) _

  laid_out : (on following after : List ℕ) → begins_blank_line following ≡ begins_blank_line after
      → (nested m ≡ false → begins_blank_line following ≡ true → (not (is_empty m.levels) && closes_levels false (w ++ (10 ∷ v)))
      ≡ (not (is_empty m.levels) && closes_levels false (w ++ (10 ∷ x))))
      → Kept (suc (length w)) (layout m on following (w ++ (10 ∷ v))) (layout m on after (w ++ (10 ∷ x)))
  unfolding layout
  laid_out on following after blank closes =
      let l = suc (length w) in
      either_if l (nested m) (nested m) refl (λ _. blanks_kept (length on)) (λ flat.
      either_if l (begins_blank_line following) (begins_blank_line after) blank
      (λ h. either l (not (is_empty m.levels) && closes_levels false (w ++ (10 ∷ v))) _ (closes flat h) (itself l _) (blanks_kept (length on))) (λ _.
      same l (bytes_eq on (innermost m)) (blanks_kept (length on))
      (same l (is_level m.levels on) (itself l _)
      (same l (m.in_body && starts_with nat_eq on (innermost m)) (blanks_kept (length (innermost m)))
      (same l (is_mixed (tested_blanks m on)) (refused l _)
      (same l (not (starts_with nat_eq on (innermost m))) (refused l _) (itself l _)))))))

  at_line_start : ClosesAlike m w v x → m.line_start ≡ true → Kept (suc (length w)) (next_by true m (w ++ (10 ∷ v))) (next_by true m (w ++ (10 ∷ x)))
  at_line_start c start =
      let n = blank_len (w ++ (10 ∷ v)) in
      let in_front : n ≤ length w = run_within is_blank no_blank_feed w v in
      let len : blank_len (w ++ (10 ∷ x)) ≡ n = run_same is_blank no_blank_feed w x v in
      let on : take n (w ++ (10 ∷ x)) ≡ take n (w ++ (10 ∷ v)) = take-append-le n w (10 ∷ x) in_front ∙ sym (take-append-le n w (10 ∷ v) in_front) in
      let after : drop n (w ++ (10 ∷ x)) ≡ drop n w ++ (10 ∷ x) = drop-append-le n w (10 ∷ x) in_front in
      let following : drop n (w ++ (10 ∷ v)) ≡ drop n w ++ (10 ∷ v) = drop-append-le n w (10 ∷ v) in_front in
      let blank : begins_blank_line (drop n (w ++ (10 ∷ v))) ≡ begins_blank_line (drop n w ++ (10 ∷ x)) = ap begins_blank_line following
      ∙ blank_line_same (drop n w) in
      let is : layout m (take n (w ++ (10 ∷ v))) (drop n w ++ (10 ∷ x)) (w ++ (10 ∷ x)) ≡ next_by true m (w ++ (10 ∷ x)) =
      sym ((λ i. layout m (take (len i) (w ++ (10 ∷ x))) (drop (len i) (w ++ (10 ∷ x))) (w ++ (10 ∷ x)))
      ∙ (λ i. layout m (on i) (after i) (w ++ (10 ∷ x)))) in
      subst (λ t. Kept (suc (length w)) (next_by true m (w ++ (10 ∷ v))) t) is
      (laid_out (take n (w ++ (10 ∷ v))) (drop n (w ++ (10 ∷ v))) (drop n w ++ (10 ∷ x)) blank (c.alike start))
    where
      blank_line_same : (y : List ℕ) → begins_blank_line (y ++ (10 ∷ v)) ≡ begins_blank_line (y ++ (10 ∷ x))
      blank_line_same [] = refl
      blank_line_same (a ∷ y) = ap (λ t. t || false) (line_end_same (a ∷ y) v x)

  by_start : ClosesAlike m w v x → (b : Bool) → m.line_start ≡ b → Kept (suc (length w)) (next_by b m (w ++ (10 ∷ v))) (next_by b m (w ++ (10 ∷ x)))
  by_start c true e = at_line_start c e
  by_start c false e = within_line_kept m w v x stops u

  next_kept : ClosesAlike m w v x → Kept (suc (length w)) (next m (w ++ (10 ∷ v))) (next m (w ++ (10 ∷ x)))
  unfolding next
  next_kept c = by w (by_start c m.line_start refl)
    where
      by : (y : List ℕ) → Kept (suc (length w)) (next_by m.line_start m (y ++ (10 ∷ v))) (next_by m.line_start m (y ++ (10 ∷ x)))
          → Kept (suc (length w)) (next m (y ++ (10 ∷ v))) (next m (y ++ (10 ∷ x)))
      by [] k = k
      by (b ∷ y) k = k

  -- a token that ends at the line feed or before it is found with the other text after it
  pub part_next : ClosesAlike m w v x → (k : TokenKind) (n : ℕ) → next m (w ++ (10 ∷ v)) ≡ Ok (k, n) → n ≤ suc (length w) → next m (w ++ (10 ∷ x)) ≡ Ok (k, n)
  part_next c k n e h = subst (λ t. KeptBy (suc (length w)) t (next m (w ++ (10 ∷ x)))) e (next_kept c).kept h
