-- A token ends between two characters, closes only the innermost thing that is open, and has the lexeme of its kind, if the kind has a single
-- one. Only the last token and dedents are empty.
use Rattle.std.proofs.Common.{zero, suc, ◌≡◌, ℕ, ◌+◌, ◌-◌, ◌<◌, ◌≤◌, Bool, true, false, cond, eqb, ltb, List, [], ◌∷◌, ◌⊎◌, inl, inr, length, get_or, take, drop, Option, Some, None, Ok, Err, refl, sym, ap, subst, ◌∙◌, ⊎_elim, arith, length-drop, get_or-drop, ◌≢◌}
use Rattle.std.specs.Prelude.{◌||◌, ◌&&◌, not, nat_eq, is_some}
use Rattle.std.specs.List.{starts_with}
use Rattle.std.specs.Char.{len_utf8}
use Rattle.std.specs.Str.{IsUtf8, IsCharBoundary, bytes_eq}
use Rattle.std.proofs.lemmas.Bool.{and_parts, cases_lt}
use Rattle.std.proofs.lemmas.Bool.Decides.{nat_tests, Decides-eqb}
use Rattle.std.proofs.lemmas.List.{length-take}
use Rattle.std.proofs.lemmas.Slice.Eq.{bytes_eq-Decides}
use Rattle.std.proofs.lemmas.Str.{IsCharBoundary-start, IsCharBoundary-from_rest, IsUtf8-drop}
use Rattle.justfile_vocabulary.specs.declared.byte_class.ByteClass.{ByteClass}
use Rattle.justfile_vocabulary.specs.declared.byte_class.ByteClass.TheVariants as classes
use Rattle.justfile_token.specs.declared.delimiter.Delimiter.{Delimiter}
use Rattle.justfile_token.specs.declared.delimiter.Delimiter.TheVariants.{Brace, Bracket, Paren, FormatString}
use Rattle.justfile_token.specs.declared.string_kind.StringDelimiter.{StringDelimiter}
use Rattle.justfile_token.specs.declared.string_kind.StringDelimiter.TheVariants as delimiters
use Rattle.justfile_token.specs.declared.string_kind.StringKind.{StringKind}
use Rattle.justfile_model.specs.declared.raw_text.RawText.TheVariants as raw_texts
use Rattle.justfile_vocabulary.specs.declared.token_kind.TokenKind.{TokenKind}
use Rattle.justfile_vocabulary.specs.declared.token_kind.TokenKind.TheVariants.{BraceR, BracketR, Dedent, Eof, Eol, FormatStringContinue, FormatStringEnd, ParenR, Whitespace, InterpolationEnd, InterpolationStart}
use Rattle.justfile_vocabulary.specs.ByteClass.{class_of}
use Rattle.justfile_model.specs.Lexing.Bytes.{is_blank, is_name_byte, blank_len, is_line_end, is_interpolation_start, is_interpolation_end, is_mixed, closes_levels, first_char}
use Rattle.justfile_token.specs.StringKind.{delimiter_len, kind_of, token_kind_of}
use Rattle.justfile_model.specs.Lexing.LiteralText.{raw_len, is_delimiter}
use Rattle.justfile_model.specs.Lexing.Tok.{Tok}
use Rattle.justfile_model.specs.declared.open_delimiter.OpenDelimiter.{OpenDelimiter}
use Rattle.justfile_model.specs.Lexing.Modes.{Mode, head_of, is_empty, innermost, innermost_of, nested}
use Rattle.justfile_model.specs.Lexing.LexicalFault.{LexicalFault, LexicalError, Here, Unclosed}
use Rattle.justfile_model.specs.Lexing.Next.{NextToken, doubled_token, fixed_token, opening, literal_part, literal_token, is_same, closing_delimiter, format_kind, brace_by, closing, line_end_token, unknown, escaped_line_end, token_by_class, text_or, body_token, at_end_by, region_by, token_in_region, token_within_line, blanks_or, tested_blanks, is_level, begins_blank_line, layout, next_by, next, format_string_kind}
use Rattle.justfile_model.proofs.Lexing.CutLemmas.{class_fact, after_byte, run_cuts, run_positive, blank_ascii, word_ascii, first_cuts, ne_from, there, past_byte, raw_cuts, raw_stops, raw_within, delimiter_is, delimiter_last, mark_last, comment_last, body_last, run_last, word_no_newline, blank_no_newline, not_newline, is_line_feed, eq_from}
use Rattle.justfile_model.specs.Lexing.SignificantTokens.{Spelling}
use Rattle.justfile_model.specs.Lexing.Unclosed.{delimiter_closer}

-- a token takes bytes, or is the end, or closes a level
abbrev pub Moves : Mode → TokenKind → ℕ → Type 0
Moves m k n = (0 < n) ⊎ ((k ≡ Eof) ⊎ ((k ≡ Dedent) × (0 < length m.levels)))

-- the last byte of a token is a line feed
abbrev pub ends_line : List ℕ → ℕ → Bool
ends_line rest n = eqb (get_or rest (n - 1) 0) 10

-- Eof comes only where the text ends, a dedent has no bytes, a line end ends in a line feed, and besides it only whitespace may
abbrev pub EndsAt : List ℕ → TokenKind → ℕ → Type 0
EndsAt rest Eof n = (length rest ≡ 0) × (n ≡ 0)
EndsAt rest Dedent n = n ≡ 0
EndsAt rest Eol n = ends_line rest n ≡ true
EndsAt rest Whitespace n = Unit {0}
EndsAt rest _ n = ends_line rest n ≡ false

abbrev pub RefusedCuts : List ℕ → LexicalError → Type 0
RefusedCuts rest (Here p skip n) = IsCharBoundary rest skip × IsCharBoundary rest (skip + n)
RefusedCuts rest (Unclosed t) = Unit {0}

abbrev pub CutsBy : Mode → List ℕ → NextToken → Type 0
CutsBy m rest (Ok x) = IsCharBoundary rest x.1 × Moves m x.0 x.1 × EndsAt rest x.0 x.1
CutsBy m rest (Err r) = RefusedCuts rest r

-- the innermost delimiter is closed by such a token
abbrev pub ClosesFirst : List OpenDelimiter → TokenKind → Type 0
ClosesFirst [] k = ⊥
ClosesFirst (o ∷ os) k = delimiter_closer o.delimiter ≡ k

-- what a token closes is open, and an interpolation begins only outside one
abbrev pub Fits : Mode → TokenKind → Type 0
Fits m BraceR = ClosesFirst m.openers BraceR
Fits m BracketR = ClosesFirst m.openers BracketR
Fits m ParenR = ClosesFirst m.openers ParenR
Fits m FormatStringEnd = ClosesFirst m.openers FormatStringEnd
Fits m Dedent = m.levels ≢ []
Fits m InterpolationStart = m.interpolation ≡ None
Fits m InterpolationEnd = is_some m.interpolation ≡ true
Fits m _ = Unit {0}

abbrev FitsBy : Mode → NextToken → Type 0
FitsBy m (Ok x) = Fits m x.0
FitsBy m (Err r) = Unit {0}

abbrev SpellsBy : List ℕ → NextToken → Type 0
SpellsBy rest (Ok x) = Spelling x.0 (take x.1 rest)
SpellsBy rest (Err r) = Unit {0}

-- what is found fits the mode, has the spelling of its kind, and ends between two characters
record Finds (m : Mode) (rest : List ℕ) (found : NextToken) : Type 0 where
  fits : FitsBy m found
  spells : SpellsBy rest found
  cuts : IsUtf8 rest → CutsBy m rest found

one_front : (rest : List ℕ) (x : ℕ) → eqb (get_or rest 0 0) x ≡ true → eqb 0 x ≡ false → take 1 rest ≡ x ∷ []
one_front [] x h z = cc
one_front (a ∷ rest) x h z = let e : a ≡ x = (Decides-eqb a x).0 h in ap (λ b. b ∷ []) e

two_front : (rest : List ℕ) (x y : ℕ) → eqb (get_or rest 0 0) x ≡ true → eqb (get_or rest 1 0) y ≡ true → eqb 0 x ≡ false → eqb 0 y ≡ false
    → take 2 rest ≡ x ∷ y ∷ []
two_front [] x y h k z w = cc
two_front (a ∷ []) x y h k z w = cc
two_front (a ∷ b ∷ rest) x y h k z w = let e : a ≡ x = (Decides-eqb a x).0 h in let f : b ≡ y = (Decides-eqb b y).0 k in λ i. e i ∷ f i ∷ []

module _ (m : Mode) (rest : List ℕ) where
  choose : (b : Bool) {x y : NextToken} → (b ≡ true → Finds m rest x) → (b ≡ false → Finds m rest y) → Finds m rest (cond b x y)
  choose true f g = f refl
  choose false f g = g refl

  abbrev Cut : ℕ → Type 0
  Cut n = IsUtf8 rest → IsCharBoundary rest n

  start : Cut 0
  start u = IsCharBoundary-start rest u

  token : (k : TokenKind) (n : ℕ) → Fits m k → Spelling k (take n rest) → EndsAt rest k n → Cut n → 0 < n → Finds m rest (Ok (k, n))
  token k n f s e b p = record { fits = f; spells = s; cuts = λ u. (b u, inl p, e) }

  dedent : m.levels ≢ [] → 0 < length m.levels → Finds m rest (Ok (Dedent, 0))
  dedent some p = record { fits = some; spells = tt; cuts = λ u. (start u, inr (inr (refl, p)), refl) }

  refused : (p : LexicalFault) (n : ℕ) → Cut n → Finds m rest (Err (Here p 0 n))
  refused p n b = record { fits = tt; spells = tt; cuts = λ u. (start u, (let e : n ≡ 0 + n = omega arith in subst (IsCharBoundary rest) e (b u))) }

  -- a fixed token of two bytes
  two_finds : (c : ℕ) (k : TokenKind) → Fits m k → Spelling k (take 2 rest) → (eqb (get_or rest 1 0) c ≡ true → EndsAt rest k 2) → (ltb 0 c && ltb c 128) ≡ true
      → eqb (get_or rest 1 0) c ≡ true → Finds m rest (Ok (k, 2))
  two_finds c k f s e small h = token k 2 f s (e h) (λ u. past_byte rest 1 c 2 u h small (omega arith)) (omega arith)

  delimiter_positive : (b : Bool) → 0 < cond b 3 1
  delimiter_positive b = grind (arith, nat_tests)

  -- the last byte of a token whose last bytes are after others
  last_after : (n k i : ℕ) → 0 < i → ends_line (drop k (drop n rest)) i ≡ false → ends_line rest (n + k + i) ≡ false
  last_after n k i l h =
      let at : n + (k + (i - 1)) ≡ n + k + i - 1 = omega arith in
      subst (λ j. eqb (get_or rest j 0) 10 ≡ false) at (subst (λ (x : ℕ). eqb x 10 ≡ false) (get_or-drop k (drop n rest) (i - 1) 0 ∙ get_or-drop n rest (k + (i - 1)) 0) h)

  -- a part of a literal, of which the first bytes are known, may have any bytes inside
  part_finds : (k : StringKind) (format : Bool) (opener : ℕ) (more whole : TokenKind) → Fits m more → Fits m whole → ((l : List ℕ) → Spelling more l)
      → ((l : List ℕ) → Spelling whole l) → ((i : ℕ) → ends_line rest i ≡ false → EndsAt rest more i) → ((i : ℕ) → ends_line rest i ≡ false → EndsAt rest whole i)
      → Cut opener → 0 < opener → Finds m rest (literal_part k format opener more whole rest)
  unfolding literal_part
  part_finds k format opener more whole f g s r em ew b p =
      let following = drop opener rest in
      let t = raw_texts.Literal k format in
      let len = raw_len t following in
      let last = λ (i : ℕ) (l : 0 < i) (h : ends_line (drop len following) i ≡ false). last_after opener len i l h in
      choose (eqb len (length following)) (λ _. refused _ opener b) (λ inside.
      let l : len < length following = omega (arith, raw_within t following, ne_from len (length following) inside) in
      let stop = raw_stops t following l in
      choose (format && is_interpolation_start (drop len following))
      (λ h.
      let brace = second (drop len following) h in
      token more _ f (s (take _ rest)) (em _ (last 2 (omega arith) (not_newline (get_or (drop len following) 1 0) 123 refl brace)))
      (λ u. at u 2 (past_byte (drop len following) 1 123 2 (rest_utf8 u) brace refl (omega arith))) (omega arith))
      (λ h.
      let delimiter : is_delimiter k (drop len following) ≡ true = grind (arith, nat_tests) in
      token whole _ g (r (take _ rest)) (ew _ (last (delimiter_len k) (delimiter_positive k.indented) (delimiter_last k (drop len following) delimiter)))
      (λ u. at u (delimiter_len k) (delimiter_is k (drop len following) delimiter (rest_utf8 u))) (omega arith)))
    where
      inside_len : ℕ
      inside_len = raw_len (raw_texts.Literal k format) (drop opener rest)

      rest_utf8 : IsUtf8 rest → IsUtf8 (drop inside_len (drop opener rest))
      rest_utf8 u = IsUtf8-drop (drop opener rest) inside_len (IsUtf8-drop rest opener u (b u)) (raw_cuts (raw_texts.Literal k format) (drop opener rest))

      at : IsUtf8 rest → (i : ℕ) → IsCharBoundary (drop inside_len (drop opener rest)) i → IsCharBoundary rest (opener + inside_len + i)
      at u i c =
          subst (IsCharBoundary rest) (omega arith)
          (IsCharBoundary-from_rest rest opener (inside_len + i) (b u).0
          (IsCharBoundary-from_rest (drop opener rest) inside_len i (raw_cuts (raw_texts.Literal k format) (drop opener rest)).0 c))

      second : (bs : List ℕ) → (format && is_interpolation_start bs) ≡ true → eqb (get_or bs 1 0) 123 ≡ true
      second bs h = (and_parts (eqb (get_or bs 0 0) 123) (eqb (get_or bs 1 0) 123) (and_parts format _ h).1).1

  -- a closing delimiter
  is_closer : (d e : Delimiter) → is_same d e ≡ true → delimiter_closer d ≡ delimiter_closer e
  is_closer Brace Brace h = refl
  is_closer Bracket Bracket h = refl
  is_closer Paren Paren h = refl
  is_closer _ _ h = cc

  close_finds : (os : List OpenDelimiter) (d : Delimiter) (k : TokenKind) → (ClosesFirst os (delimiter_closer d) → Fits m k) → Spelling k (take 1 rest)
      → EndsAt rest k 1 → Cut 1 → Finds m rest (closing_delimiter (head_of os) d k)
  close_finds [] d k f s e one = refused _ 0 start
  close_finds (o ∷ os) d k f s e one =
      choose (is_same o.delimiter d) (λ h. token k 1 (f (is_closer o.delimiter d h)) s e one (omega arith)) (λ _. refused _ 0 start)

  ends_format : (d : Delimiter) (k : StringKind) → format_string_kind d ≡ Some k → delimiter_closer d ≡ FormatStringEnd
  ends_format (FormatString j) k h = refl
  ends_format _ k h = cc

  brace_finds : Cut 1 → ends_line rest 1 ≡ false → (os : List OpenDelimiter) → os ≡ m.openers → (f : Option StringKind) → format_kind (head_of os) ≡ f
      → Finds m rest (brace_by f (head_of os) rest)
  brace_finds one clean os e None h = close_finds os Brace BraceR (λ c. subst (λ os. ClosesFirst os BraceR) e c) tt clean one
  brace_finds one clean [] e (Some k) h = cc
  brace_finds one clean (o ∷ os) e (Some k) h =
      choose (is_interpolation_end rest)
      (λ g. part_finds k true 2 FormatStringContinue FormatStringEnd tt (subst (λ os. ClosesFirst os FormatStringEnd) e (ends_format o.delimiter k h)) (λ l. tt) (λ l. tt)
      (λ _ h. h) (λ _ h. h) (λ u. past_byte rest 1 125 2 u (and_parts (eqb (get_or rest 0 0) 125) _ g).1 refl (omega arith)) (omega arith))
      (λ _. close_finds (o ∷ os) Brace BraceR (λ c. subst (λ os. ClosesFirst os BraceR) e c) tt clean one)

  line_end_finds : (n : ℕ) → Cut n → 0 < n → ends_line rest n ≡ true → Finds m rest (line_end_token m n)
  line_end_finds n b p h = choose (nested m) (λ _. token _ n tt tt tt b p) (λ _. token _ n tt tt h b p)

  blanks_after : (n : ℕ) → Cut n → 0 < n → Finds m rest (Ok (Whitespace, n + blank_len (drop n rest)))
  blanks_after n b p =
      let following = drop n rest in
      token Whitespace _ tt tt tt
      (λ u. IsCharBoundary-from_rest rest n _ (b u).0 (run_cuts is_blank blank_ascii following _ (IsUtf8-drop rest n u (b u)) (omega arith))) (omega arith)

  escape_finds : Cut 1 → Finds m rest (escaped_line_end rest)
  escape_finds one =
      choose (eqb (get_or rest 1 0) 10) (λ h. blanks_after 2 (λ u. past_byte rest 1 10 2 u h refl (omega arith)) (omega arith)) (λ _.
      choose (eqb (get_or rest 1 0) 13) (λ cr.
      choose (eqb (get_or rest 2 0) 10) (λ h. blanks_after 3 (λ u. past_byte rest 2 10 3 u h refl (omega arith)) (omega arith))
      (λ _. refused _ 2 (λ u. past_byte rest 1 13 2 u cr refl (omega arith)))) (λ _.
      choose (eqb (length (drop 1 rest)) 0) (λ _. refused _ 1 one) (λ _. refused _ 1 one)))

  some_level : {A : Type 0} (xs : List A) (b : Bool) → (not (is_empty xs) && b) ≡ true → (xs ≢ []) × (0 < length xs)
  some_level [] b h = cc
  some_level (x ∷ xs) b h = ((λ e. cc e), omega arith)

  -- another level than the innermost is open only where one is
  has_level : (levels : List (List ℕ)) (found : List ℕ) → bytes_eq found (innermost_of levels) ≡ false → is_level levels found ≡ true
      → (levels ≢ []) × (0 < length levels)
  has_level (l ∷ ls) found h g = ((λ e. cc e), omega arith)
  has_level [] [] h g = cc
  has_level [] (b ∷ bs) h g = cc

  begins_within : (a : Bool) (text front : List ℕ) → (a && starts_with nat_eq text front) ≡ true → length front ≤ length text
  begins_within true text front h = omega (arith, ap length ((bytes_eq-Decides front (take (length front) text)).0 h), length-take (length front) text)
  begins_within false text front h = cc

  seen_within : (b : Bool) (k : ℕ) (found : List ℕ) → length (cond b (take k found) found) ≤ length found
  seen_within true k found = omega (arith, length-take k found)
  seen_within false k found = omega arith

  found_positive : (levels : List (List ℕ)) (found : List ℕ) → is_level levels found ≡ false → 0 < length found
  found_positive levels [] h = cc
  found_positive levels (b ∷ bs) h = omega arith

  -- where there is text
  module _ (l : 0 < length rest) where
    unknown_finds : Finds m rest (unknown rest)
    unknown_finds = refused _ _ (λ u. first_cuts rest l u)

    twice_finds : (b : ℕ) (k : TokenKind) → Fits m k → Spelling k (take 2 rest) → (eqb (get_or rest 1 0) b ≡ true → EndsAt rest k 2) → (ltb 0 b && ltb b 128) ≡ true
        → Cut 1 → Finds m rest (doubled_token b k rest)
    twice_finds b k f s e small one =
        choose (eqb (get_or rest 1 0) b) (two_finds b k f s e small) (λ _.
        choose (eqb (length (drop 1 rest)) 0) (λ _. record { fits = tt; spells = tt; cuts = λ u. (one u, one u) }) (λ more.
        let some : 0 < length (drop 1 rest) = omega (arith, length-drop 1 rest, ne_from (length (drop 1 rest)) 0 more) in
        record { fits = tt; spells = tt; cuts = λ u. (one u, IsCharBoundary-from_rest rest 1 _ l (first_cuts (drop 1 rest) some (IsUtf8-drop rest 1 u (one u)))) }))

    fixed_finds : Cut 1 → ends_line rest 1 ≡ false → Finds m rest (fixed_token (get_or rest 0 0) rest)
    unfolding fixed_token
    fixed_finds one clean =
        let single = λ (k : TokenKind) (f : Fits m k) (s : Spelling k (take 1 rest)) (e : EndsAt rest k 1). token k 1 f s e one (omega arith) in
        let b = get_or rest 0 0 in
        let c = get_or rest 1 0 in
        choose (eqb b 33) (λ h. choose (eqb c 61) (λ k. two_finds 61 _ tt (two_front rest 33 61 h k refl refl) (not_newline _ 61 refl) refl k)
        (λ _. choose (eqb c 126) (λ k. two_finds 126 _ tt (two_front rest 33 126 h k refl refl) (not_newline _ 126 refl) refl k) (λ _. single _ tt tt clean))) (λ _.
        choose (eqb b 38) (λ _. twice_finds 38 _ tt tt (not_newline _ 38 refl) refl one) (λ _.
        choose (eqb b 124) (λ _. twice_finds 124 _ tt tt (not_newline _ 124 refl) refl one) (λ _.
        choose (eqb b 43) (λ h. choose (eqb c 43) (λ k. two_finds 43 _ tt (two_front rest 43 43 h k refl refl) (not_newline _ 43 refl) refl k)
        (λ _. single _ tt (one_front rest 43 h refl) clean)) (λ _.
        choose (eqb b 61) (λ h. choose (eqb c 61) (λ k. two_finds 61 _ tt (two_front rest 61 61 h k refl refl) (not_newline _ 61 refl) refl k)
        (λ _. choose (eqb c 126) (λ k. two_finds 126 _ tt (two_front rest 61 126 h k refl refl) (not_newline _ 126 refl) refl k) (λ _. single _ tt tt clean))) (λ _.
        choose (eqb b 58) (λ _. choose (eqb c 61) (two_finds 61 _ tt tt (not_newline _ 61 refl) refl)
        (λ _. choose (eqb c 58) (two_finds 58 _ tt tt (not_newline _ 58 refl) refl) (λ _. single _ tt tt clean))) (λ _.
        choose (eqb b 36) (λ _. single _ tt tt clean) (λ _.
        choose (eqb b 42) (λ _. single _ tt tt clean) (λ _.
        choose (eqb b 44) (λ _. single _ tt tt clean) (λ _.
        choose (eqb b 47) (λ h. single _ tt (one_front rest 47 h refl) clean) (λ _.
        choose (eqb b 63) (λ _. single _ tt tt clean) (λ _.
        choose (eqb b 64) (λ _. single _ tt tt clean) (λ _. unknown_finds))))))))))))

    opening_finds : Cut 1 → ends_line rest 1 ≡ false → Finds m rest (opening (get_or rest 0 0) rest)
    opening_finds one clean =
        choose (eqb (get_or rest 0 0) 40) (λ _. token _ 1 tt tt clean one (omega arith)) (λ _.
        choose (eqb (get_or rest 0 0) 91) (λ h. token _ 1 tt (one_front rest 91 h refl) clean one (omega arith)) (λ _.
        choose (eqb (get_or rest 0 0) 123) (λ _. token _ 1 tt tt clean one (omega arith)) (λ _. unknown_finds)))

    literal_finds : Cut 1 → (0 < get_or rest 0 0) × (get_or rest 0 0 < 128) → Finds m rest (literal_token m rest)
    literal_finds one small =
        let w = whole (kind_of rest).delimiter in
        part_finds (kind_of rest) _ _ _ _ tt w.0 (λ l. tt) w.1 (λ _ h. h) w.2 (opened _ refl) (delimiter_positive (kind_of rest).indented)
      where
        whole : (d : StringDelimiter) → Fits m (token_kind_of d) × ((l : List ℕ) → Spelling (token_kind_of d) l) × ((i : ℕ) → ends_line rest i ≡ false → EndsAt rest (token_kind_of d) i)
        whole delimiters.Backtick = (tt, λ l. tt, λ i h. h)
        whole _ = (tt, λ l. tt, λ i h. h)

        third : (a b c : ℕ) → (eqb b a && eqb c a) ≡ true → c ≡ a
        third a b c h = grind (arith, nat_tests)

        opened : (b : Bool) → (eqb (get_or rest 1 0) (get_or rest 0 0) && eqb (get_or rest 2 0) (get_or rest 0 0)) ≡ b → Cut (cond b 3 1)
        opened true h u =
            let e : get_or rest 2 0 ≡ get_or rest 0 0 = third (get_or rest 0 0) (get_or rest 1 0) (get_or rest 2 0) h in
            after_byte rest 2 3 u (there rest 2 _ small.0 e) (omega (arith, e, small.1)) (omega arith)
        opened false h u = one u

    closing_finds : Cut 1 → ends_line rest 1 ≡ false → (b : ℕ) → Finds m rest (closing (head_of m.openers) b rest)
    closing_finds one clean b =
        choose (eqb b 41) (λ _. close_finds m.openers Paren ParenR (λ h. h) tt clean one) (λ _.
        choose (eqb b 93) (λ _. close_finds m.openers Bracket BracketR (λ h. h) tt clean one) (λ _.
        choose (eqb b 125) (λ _. brace_finds one clean m.openers refl (format_kind (head_of m.openers)) refl) (λ _. unknown_finds)))

    comment_positive : eqb (get_or rest 0 0) 35 ≡ true → 0 < raw_len raw_texts.Comment rest
    comment_positive h =
        ⊎_elim (λ p. p) (λ none.
        let zero' : raw_len raw_texts.Comment rest ≡ 0 = omega arith in
        let stop = raw_stops raw_texts.Comment rest (omega (arith, l)) in
        let stop' = subst (λ n. is_line_end (drop n rest) ≡ true) zero' stop in
        absurd (never rest h stop'))
        (cases_lt 0 (raw_len raw_texts.Comment rest))
      where
        never : (bs : List ℕ) → eqb (get_or bs 0 0) 35 ≡ true → is_line_end bs ≡ true → ⊥
        never bs h g = grind (arith, nat_tests)

    mark_cut : eqb (first_char rest) 65279 ≡ true → Cut 3
    mark_cut h u = let e : len_utf8 (first_char rest) ≡ 3 = ap len_utf8 (eq_from _ _ h) in subst (IsCharBoundary rest) e (first_cuts rest l u)

    inline_finds : (k : ByteClass) → class_of (get_or rest 0 0) ≡ k → Finds m rest (token_by_class m k rest)
    unfolding token_by_class
    inline_finds classes.Blank e =
        token _ _ tt tt tt (λ u. run_cuts is_blank blank_ascii rest _ u (omega arith)) (run_positive is_blank rest l (ap Rattle.justfile_model.specs.Lexing.Bytes.blank e))
    inline_finds classes.LineFeed e = line_end_finds 1 (λ u. after_byte rest 0 1 u l (class_fact _ _ e).1 (omega arith)) (omega arith) (is_line_feed _ _ e)
    inline_finds classes.CarriageReturn e =
        choose (eqb (get_or rest 1 0) 10) (λ h. line_end_finds 2 (λ u. past_byte rest 1 10 2 u h refl (omega arith)) (omega arith) h)
        (λ _. refused _ 1 (λ u. after_byte rest 0 1 u l (class_fact _ _ e).1 (omega arith)))
    inline_finds classes.IdentifierStart e =
        let some = run_positive is_name_byte rest l (ap Rattle.justfile_model.specs.Lexing.Bytes.in_word e) in
        token _ _ tt tt (run_last is_name_byte word_no_newline rest _ (omega arith) some) (λ u. run_cuts is_name_byte word_ascii rest _ u (omega arith)) some
    inline_finds classes.IdentifierContinue e = unknown_finds
    inline_finds classes.Quote e = literal_finds (λ u. after_byte rest 0 1 u l (class_fact _ _ e).1 (omega arith)) (class_fact _ _ e)
    inline_finds classes.Opener e = opening_finds (λ u. after_byte rest 0 1 u l (class_fact _ _ e).1 (omega arith)) (is_line_feed _ _ e)
    inline_finds classes.Closer e = closing_finds (λ u. after_byte rest 0 1 u l (class_fact _ _ e).1 (omega arith)) (is_line_feed _ _ e) (get_or rest 0 0)
    inline_finds classes.Fixed e = fixed_finds (λ u. after_byte rest 0 1 u l (class_fact _ _ e).1 (omega arith)) (is_line_feed _ _ e)
    inline_finds classes.Lead e =
        choose (eqb (first_char rest) 65279) (λ h. record { fits = tt; spells = tt; cuts = λ u. (mark_cut h u, inl (omega arith), mark_last rest u l h) }) (λ _. unknown_finds)
    inline_finds classes.Other e =
        choose (eqb (get_or rest 0 0) 35) (λ h. token _ _ tt tt (comment_last rest (comment_positive h)) (λ u. raw_cuts raw_texts.Comment rest) (comment_positive h)) (λ _.
        choose (eqb (get_or rest 0 0) 92) (λ h. escape_finds (λ u. past_byte rest 0 92 1 u h refl (omega arith))) (λ _. unknown_finds))

    body_finds : m.interpolation ≡ None → Finds m rest (body_token rest)
    unfolding body_token
    body_finds none = by (raw_len raw_texts.Body rest) refl
      where
        crlf_second : (bs : List ℕ) → (is_line_end bs || is_interpolation_start bs) ≡ true → eqb (get_or bs 0 0) 13 ≡ true → eqb (get_or bs 1 0) 10 ≡ true
        crlf_second bs h e = grind (arith, nat_tests)

        opening_second : (bs : List ℕ) → (is_line_end bs || is_interpolation_start bs) ≡ true → eqb (get_or bs 0 0) 10 ≡ false → eqb (get_or bs 0 0) 13 ≡ false → eqb (get_or bs 1 0) 123 ≡ true
        opening_second bs h e f = grind (arith, nat_tests)

        by : (n : ℕ) → n ≡ raw_len raw_texts.Body rest → Finds m rest (text_or n (get_or rest 0 0))
        by (suc n) e =
            token _ _ tt tt (subst (λ n. ends_line rest n ≡ false) (sym e) (body_last rest (omega (arith, e))))
            (λ u. subst (IsCharBoundary rest) (sym e) (raw_cuts raw_texts.Body rest)) (omega arith)
        by zero e =
            let stop = raw_stops raw_texts.Body rest (omega (arith, e, l)) in
            let front = subst (λ n. (is_line_end (drop n rest) || is_interpolation_start (drop n rest)) ≡ true) (sym e) stop in
            choose (eqb (get_or rest 0 0) 10) (λ h. token _ 1 tt tt h (λ u. past_byte rest 0 10 1 u h refl (omega arith)) (omega arith)) (λ no_lf.
            choose (eqb (get_or rest 0 0) 13) (λ h. two_finds 10 _ tt tt (λ h. h) refl (crlf_second rest front h)) (λ no_cr.
            two_finds 123 _ none tt (not_newline _ 123 refl) refl (opening_second rest front no_lf no_cr)))

    inside_finds : Finds m rest (token_within_line m rest)
    unfolding token_within_line
    inside_finds = by m.in_body m.interpolation refl
      where
        by : (b : Bool) (o : Option Tok) → o ≡ m.interpolation → Finds m rest (token_in_region (region_by b o) m rest)
        by b (Some t) e =
            choose (is_empty m.openers && is_interpolation_end rest) (λ h. two_finds 125 _ (ap is_some (sym e)) tt (not_newline _ 125 refl) refl
            (and_parts (eqb (get_or rest 0 0) 125) _ (and_parts (is_empty m.openers) _ h).1).1) (λ _. inline_finds (class_of (get_or rest 0 0)) refl)
        by true None e = body_finds (sym e)
        by false None e = inline_finds (class_of (get_or rest 0 0)) refl

    blanks_find : (n : ℕ) → n ≤ blank_len rest → Finds m rest (blanks_or n m rest)
    blanks_find zero h = inside_finds
    blanks_find (suc n) h = token _ (suc n) tt tt tt (λ u. run_cuts is_blank blank_ascii rest (suc n) u h) (omega arith)

    layout_finds : (found following : List ℕ) → length found ≤ blank_len rest → Finds m rest (layout m found following rest)
    unfolding layout
    layout_finds found following h =
        let level = innermost m in
        let cut = λ (k : ℕ) (le : k ≤ length found) (u : IsUtf8 rest). run_cuts is_blank blank_ascii rest k u (omega (arith, le, h)) in
        let blanks = blanks_find (length found) h in
        choose (nested m) (λ _. blanks) (λ _.
        choose (begins_blank_line following)
        (λ _. choose (not (is_empty m.levels) && closes_levels false rest) (λ e. let s = some_level m.levels _ e in dedent s.0 s.1) (λ _. blanks)) (λ _.
        choose (bytes_eq found level) (λ _. blanks) (λ other.
        choose (is_level m.levels found) (λ e. let s = has_level m.levels found other e in dedent s.0 s.1) (λ some.
        choose (m.in_body && starts_with nat_eq found level) (λ e. blanks_find (length level) (omega (arith, h, begins_within m.in_body found level e))) (λ _.
        choose (is_mixed (tested_blanks m found)) (λ _. refused _ _ (cut _ (seen_within m.in_body (length level) found))) (λ _.
        choose (not (starts_with nat_eq found level)) (λ _. refused _ _ (cut (length found) (omega arith))) (λ _.
        let some' = found_positive m.levels found some in
        token _ _ tt tt (run_last is_blank blank_no_newline rest _ h some') (cut (length found) (omega arith)) some')))))))

    next_by_finds : (b : Bool) → Finds m rest (next_by b m rest)
    next_by_finds true = layout_finds _ _ (omega (arith, length-take (blank_len rest) rest))
    next_by_finds false = inside_finds

at_end_finds : (m : Mode) (o : Option Tok) (ls : List (List ℕ)) → ls ≡ m.levels → Finds m [] (at_end_by o ls)
at_end_finds m (Some t) ls e = record { fits = tt; spells = tt; cuts = λ u. tt }
at_end_finds m None [] e = record { fits = tt; spells = tt; cuts = λ u. (IsCharBoundary-start [] u, inr (inl refl), (refl, refl)) }
at_end_finds m None (l ∷ ls) e = dedent m [] (λ none. cc) (omega (arith, ap length e))

next_finds : (m : Mode) (rest : List ℕ) → Finds m rest (next m rest)
unfolding next
next_finds m [] = at_end_finds m m.interpolation m.levels refl
next_finds m (b ∷ bs) = next_by_finds m (b ∷ bs) (omega arith) m.line_start

pub token_cut : (m : Mode) (rest : List ℕ) → IsUtf8 rest → (k : TokenKind) (n : ℕ) → next m rest ≡ Ok (k, n) → IsCharBoundary rest n × Moves m k n × EndsAt rest k n
token_cut m rest u k n e = subst (CutsBy m rest) e ((next_finds m rest).cuts u)

pub fault_cut : (m : Mode) (rest : List ℕ) → IsUtf8 rest → (r : LexicalError) → next m rest ≡ Err r → RefusedCuts rest r
fault_cut m rest u r e = subst (CutsBy m rest) e ((next_finds m rest).cuts u)

-- what is found fits the mode
pub token_fits : (m : Mode) (rest : List ℕ) (k : TokenKind) (n : ℕ) → next m rest ≡ Ok (k, n) → Fits m k
token_fits m rest k n e = subst (FitsBy m) e (next_finds m rest).fits

-- and has the spelling of its kind
pub token_spells : (m : Mode) (rest : List ℕ) (k : TokenKind) (n : ℕ) → next m rest ≡ Ok (k, n) → Spelling k (take n rest)
token_spells m rest k n e = subst (SpellsBy rest) e (next_finds m rest).spells
