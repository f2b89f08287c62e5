-- Positions at which a text can be split.
use Rattle.std.proofs.Common.{zero, suc, ◌≡◌, ℕ, ◌+◌, ◌-◌, ◌<◌, ◌≤◌, Bool, true, false, cond, eqb, ltb, List, [], ◌∷◌, length, get_or, drop, refl, sym, ap, subst, ◌∙◌, ⊎_elim, arith, add-zero, zero-add, get_or-drop}
use Rattle.std.specs.Prelude.{◌||◌, ◌&&◌, chars}
use Rattle.std.proofs.lemmas.List.{get_or_past}
use Rattle.std.specs.List.{prefix_len}
use Rattle.std.specs.Str.{IsUtf8, IsCharBoundary}
use Rattle.std.specs.Char.{len_utf8, is_ascii_alphabetic, is_ascii_digit}
use Rattle.std.proofs.lemmas.Bool.{cases_lt}
use Rattle.std.proofs.lemmas.Bool.Decides.{nat_tests}
use Rattle.std.proofs.lemmas.List.Sums.{prefix_len_passes, prefix_len-le-length}
use Rattle.std.proofs.lemmas.Str.{IsCharBoundary-start, IsCharBoundary-end, IsCharBoundary-before_ascii, IsCharBoundary-after_ascii, IsCharBoundary-past_char, encodes-chars}
use Rattle.std.proofs.Math.Utf8.{encodes}
use Rattle.justfile_vocabulary.specs.declared.byte_class.ByteClass.{ByteClass}
use Rattle.justfile_vocabulary.specs.declared.byte_class.ByteClass.TheVariants.{Blank, LineFeed, CarriageReturn, IdentifierStart, IdentifierContinue, Quote, Opener, Closer, Fixed, Lead, Other}
use Rattle.justfile_token.specs.declared.string_kind.StringDelimiter.{StringDelimiter}
use Rattle.justfile_token.specs.declared.string_kind.StringDelimiter.TheVariants.{Backtick}
use Rattle.justfile_token.specs.declared.string_kind.StringKind.{StringKind}
use Rattle.justfile_model.specs.declared.raw_text.RawText.{RawText}
use Rattle.justfile_model.specs.declared.raw_text.RawText.TheVariants.{Comment, Body, Literal}
use Rattle.justfile_vocabulary.specs.ByteClass.{begins_fixed, class_of}
use Rattle.justfile_model.specs.Lexing.BlankLines.{is_blank_or_line_end}
use Rattle.justfile_vocabulary.specs.Indentation.{is_space_or_tab}
use Rattle.justfile_model.specs.Lexing.Bytes.{blank, in_word, line_feed, white, is_blank, is_name_byte, is_line_end, is_interpolation_start, is_interpolation_escape, first_char}
use Rattle.justfile_token.specs.StringKind.{delimiter_len, kind_of, quote_of}
use Rattle.justfile_model.specs.Lexing.LiteralText.{pieces_len, is_delimiter, hides, ends, raw_len}

-- the bytes of these classes are ASCII
abbrev pub ClassFact : ℕ → ByteClass → Type 0
ClassFact b Lead = Unit {0}
ClassFact b Other = Unit {0}
ClassFact b _ = (0 < b) × (b < 128)

-- what holds of a byte of this class
pub record IsClass (b : ℕ) (k : ByteClass) : Type 0 where
  pub fact : ClassFact b k
  pub feed : eqb b 10 ≡ line_feed k
  pub is_blank : is_space_or_tab b ≡ blank k
  pub is_white : is_blank_or_line_end b ≡ white k

class_if : (b : ℕ) (t : Bool) {x y : ByteClass} → (t ≡ true → IsClass b x) → (t ≡ false → IsClass b y) → IsClass b (cond t x y)
class_if b true f g = f refl
class_if b false f g = g refl

ascii_one : (b n : ℕ) → (ltb 0 n && ltb n 128) ≡ true → eqb b n ≡ true → (0 < b) × (b < 128)
ascii_one b n h e = (grind (arith, nat_tests), grind (arith, nat_tests))

ascii_start : (b : ℕ) → (is_ascii_alphabetic b || eqb b 95) ≡ true → (0 < b) × (b < 128)
ascii_start b h = (grind (arith, nat_tests), grind (arith, nat_tests))

ascii_continue : (b : ℕ) → (is_ascii_digit b || eqb b 45) ≡ true → (0 < b) × (b < 128)
ascii_continue b h = (grind (arith, nat_tests), grind (arith, nat_tests))

ascii_three : (b i j k : ℕ) → (ltb 0 i && ltb i 128 && ltb 0 j && ltb j 128 && ltb 0 k && ltb k 128) ≡ true → (eqb b i || eqb b j || eqb b k) ≡ true → (0 < b) × (b < 128)
ascii_three b i j k h e = (grind (arith, nat_tests), grind (arith, nat_tests))

ascii_fixed : (b : ℕ) → begins_fixed b ≡ true → (0 < b) × (b < 128)
ascii_fixed b h = (grind (arith, nat_tests), grind (arith, nat_tests))

-- a blank, a line feed, and a carriage return
is_blank_class : (b : ℕ) → (eqb b 32 || eqb b 9) ≡ true → IsClass b Blank
is_blank_class b h = record { fact = (grind (arith, nat_tests), grind (arith, nat_tests)); feed = grind (arith, nat_tests); is_blank = h; is_white = grind (arith, nat_tests) }

is_feed_class : (b : ℕ) → (eqb b 32 || eqb b 9) ≡ false → eqb b 10 ≡ true → IsClass b LineFeed
is_feed_class b none h = record { fact = ascii_one b 10 refl h; feed = h; is_blank = none; is_white = grind (arith, nat_tests) }

is_return_class : (b : ℕ) → (eqb b 32 || eqb b 9) ≡ false → eqb b 10 ≡ false → eqb b 13 ≡ true → IsClass b CarriageReturn
is_return_class b none no_feed h = record { fact = ascii_one b 13 refl h; feed = no_feed; is_blank = none; is_white = grind (arith, nat_tests) }

not_white : (b : ℕ) → (eqb b 32 || eqb b 9) ≡ false → eqb b 10 ≡ false → eqb b 13 ≡ false → is_blank_or_line_end b ≡ false
not_white b h f g = grind (arith, nat_tests)

pub is_class : (b : ℕ) → IsClass b (class_of b)
unfolding class_of
is_class b =
    class_if b _ (is_blank_class b) (λ none.
    class_if b _ (is_feed_class b none) (λ no_feed.
    class_if b _ (is_return_class b none no_feed) (λ no_return.
    let white : is_blank_or_line_end b ≡ false = not_white b none no_feed no_return in
    class_if b _ {x = IdentifierStart} (λ h. record { fact = ascii_start b h; feed = no_feed; is_blank = none; is_white = white }) (λ _.
    class_if b _ {x = IdentifierContinue} (λ h. record { fact = ascii_continue b h; feed = no_feed; is_blank = none; is_white = white }) (λ _.
    class_if b _ {x = Quote} (λ h. record { fact = ascii_three b 39 34 96 refl h; feed = no_feed; is_blank = none; is_white = white }) (λ _.
    class_if b _ {x = Opener} (λ h. record { fact = ascii_three b 40 91 123 refl h; feed = no_feed; is_blank = none; is_white = white }) (λ _.
    class_if b _ {x = Closer} (λ h. record { fact = ascii_three b 41 93 125 refl h; feed = no_feed; is_blank = none; is_white = white }) (λ _.
    class_if b _ {x = Fixed} (λ h. record { fact = ascii_fixed b h; feed = no_feed; is_blank = none; is_white = white }) (λ _.
    class_if b (ltb 193 b && ltb b 245) {x = Lead} {y = Other} (λ h. record { fact = tt; feed = no_feed; is_blank = none; is_white = white })
    (λ _. record { fact = tt; feed = no_feed; is_blank = none; is_white = white }))))))))))

pub class_fact : (b : ℕ) (k : ByteClass) → class_of b ≡ k → ClassFact b k
class_fact b k e = subst (ClassFact b) e (is_class b).fact

pub eq_from : (a b : ℕ) → eqb a b ≡ true → a ≡ b
eq_from a b h = grind (arith, nat_tests)

pub is_line_feed : (b : ℕ) (k : ByteClass) → class_of b ≡ k → eqb b 10 ≡ line_feed k
is_line_feed b k e = (is_class b).feed ∙ ap line_feed e

pub not_newline : (b c : ℕ) → eqb c 10 ≡ false → eqb b c ≡ true → eqb b 10 ≡ false
not_newline b c h e = subst (λ (x : ℕ). eqb x 10 ≡ false) (sym (eq_from b c e)) h

pub blank_no_newline : (b : ℕ) → is_blank b ≡ true → eqb b 10 ≡ false
blank_no_newline b h = (is_class b).feed ∙ go (class_of b) h
  where
    go : (k : ByteClass) → blank k ≡ true → line_feed k ≡ false
    go LineFeed h = cc
    go _ h = refl

pub word_no_newline : (b : ℕ) → is_name_byte b ≡ true → eqb b 10 ≡ false
word_no_newline b h = (is_class b).feed ∙ go (class_of b) h
  where
    go : (k : ByteClass) → in_word k ≡ true → line_feed k ≡ false
    go LineFeed h = cc
    go _ h = refl

-- the last byte of a run
pub run_last : (p : ℕ → Bool) → ((b : ℕ) → p b ≡ true → eqb b 10 ≡ false) → (rest : List ℕ) (n : ℕ) → n ≤ prefix_len p rest → 0 < n → eqb (get_or rest (n - 1) 0) 10 ≡ false
run_last p clean rest n le l = clean _ (prefix_len_passes p rest (n - 1) 0 (omega arith))

pub after_byte : (rest : List ℕ) (i n : ℕ) → IsUtf8 rest → i < length rest → get_or rest i 0 < 128 → i + 1 ≡ n → IsCharBoundary rest n
after_byte rest i n u l a e = subst (IsCharBoundary rest) e (IsCharBoundary-after_ascii rest i u l a)

pub run_cuts : (p : ℕ → Bool) → ((b : ℕ) → p b ≡ true → b < 128) → (rest : List ℕ) (n : ℕ) → IsUtf8 rest → n ≤ prefix_len p rest → IsCharBoundary rest n
run_cuts p ascii rest n u le =
    ⊎_elim
    (λ some. after_byte rest (n - 1) _ u (omega (arith, prefix_len-le-length p rest)) (ascii _ (prefix_len_passes p rest (n - 1) 0 (omega arith))) (omega arith))
    (λ none. let e : 0 ≡ n = omega arith in subst (IsCharBoundary rest) e (IsCharBoundary-start rest u))
    (cases_lt 0 n)

pub run_positive : (p : ℕ → Bool) (rest : List ℕ) → 0 < length rest → p (get_or rest 0 0) ≡ true → 0 < prefix_len p rest
run_positive p [] l h = absurd (omega arith)
run_positive p (b ∷ bs) l h = rw h (omega arith)

pub blank_ascii : (b : ℕ) → is_blank b ≡ true → b < 128
blank_ascii b h = go (class_of b) (is_class b).fact h
  where
    go : (k : ByteClass) → ClassFact b k → blank k ≡ true → b < 128
    go Blank f h = f.1
    go _ f h = cc

pub word_ascii : (b : ℕ) → is_name_byte b ≡ true → b < 128
word_ascii b h = go (class_of b) (is_class b).fact h
  where
    go : (k : ByteClass) → ClassFact b k → in_word k ≡ true → b < 128
    go IdentifierStart f h = f.1
    go IdentifierContinue f h = f.1
    go _ f h = cc

first_by : (cs rest : List ℕ) → encodes cs ≡ rest → 0 < length rest → IsUtf8 rest → IsCharBoundary rest (len_utf8 (get_or cs 0 0))
first_by [] rest e l u = absurd (omega (arith, ap length e))
first_by (c ∷ cs) rest e l u = subst (IsCharBoundary rest) (zero-add (len_utf8 c)) (IsCharBoundary-past_char rest (encodes cs) 0 c (omega arith) u (sym e))

pub first_cuts : (rest : List ℕ) → 0 < length rest → IsUtf8 rest → IsCharBoundary rest (len_utf8 (first_char rest))
first_cuts rest l u = first_by (chars rest) rest (encodes-chars rest u) l u

pub ne_from : (a b : ℕ) → eqb a b ≡ false → a ≡ b → ⊥
ne_from a b h e = grind (arith, nat_tests)

pub there : (rest : List ℕ) (i b : ℕ) → 0 < b → get_or rest i 0 ≡ b → i < length rest
there rest i b p e = ⊎_elim (λ l. l) (λ h. absurd (omega (arith, e, get_or_past rest i 0 h))) (cases_lt i (length rest))

-- a position after an ASCII byte
pub past_byte : (rest : List ℕ) (i b n : ℕ) → IsUtf8 rest → eqb (get_or rest i 0) b ≡ true → (ltb 0 b && ltb b 128) ≡ true → i + 1 ≡ n → IsCharBoundary rest n
past_byte rest i b n u h small e =
    let is : get_or rest i 0 ≡ b = eq_from _ _ h in
    let low : 0 < b = grind (arith, nat_tests) in
    let high : b < 128 = grind (arith, nat_tests) in
    after_byte rest i n u (there rest i b low is) (omega (arith, is, high)) e

-- a quote begins the whole delimiter of a literal
pub opener_fits : (rest : List ℕ) → 0 < length rest → class_of (get_or rest 0 0) ≡ Quote → delimiter_len (kind_of rest) ≤ length rest
opener_fits rest l e = by (eqb (get_or rest 1 0) (get_or rest 0 0) && eqb (get_or rest 2 0) (get_or rest 0 0)) refl
  where
    third : (a b c : ℕ) → (eqb b a && eqb c a) ≡ true → c ≡ a
    third a b c h = grind (arith, nat_tests)

    by : (t : Bool) → (eqb (get_or rest 1 0) (get_or rest 0 0) && eqb (get_or rest 2 0) (get_or rest 0 0)) ≡ t → cond t 3 1 ≤ length rest
    by true h = there rest 2 (get_or rest 0 0) (class_fact _ _ e).0 (third _ _ _ h)
    by false h = omega (arith, l)

-- Raw text ends at the end of the text or before an ASCII byte.
module _ (hide : List ℕ → ℕ) (end : List ℕ → Bool) where
  pub record Stops (n : ℕ) (bs : List ℕ) : Type 0 where
    pub within : pieces_len hide end n bs ≤ length bs
    pub stop : pieces_len hide end n bs < length bs → end (drop (pieces_len hide end n bs) bs) ≡ true

  stops_suc : (k : ℕ) (b : ℕ) (bs : List ℕ) (n : ℕ) → pieces_len hide end n (b ∷ bs) ≡ suc (pieces_len hide end k bs) → Stops k bs → Stops n (b ∷ bs)
  stops_suc k b bs n e h = record {
    within = omega (arith, e, h.within);
    stop = λ l. subst (λ i. end (drop i (b ∷ bs)) ≡ true) (sym e) (h.stop (omega (arith, e)));
  }

  stops_by : (t s : Bool) (b : ℕ) (bs : List ℕ) → ltb 0 (hide (b ∷ bs)) ≡ t → end (b ∷ bs) ≡ s → ((k : ℕ) → Stops k bs) → Stops zero (b ∷ bs)
  unfolding pieces_len
  stops_by true s b bs h g more = stops_suc (hide (b ∷ bs)) b bs 0 (rw h refl) (more (hide (b ∷ bs)))
  stops_by false true b bs h g more =
      let e : pieces_len hide end 0 (b ∷ bs) ≡ 0 = rw (h, g) refl in
      record { within = omega (arith, e); stop = λ l. subst (λ i. end (drop i (b ∷ bs)) ≡ true) (sym e) g }
  stops_by false false b bs h g more = stops_suc 0 b bs 0 (rw (h, g) refl) (more 0)

  pub stops : (bs : List ℕ) (n : ℕ) → Stops n bs
  unfolding pieces_len
  stops [] n = record { within = omega arith; stop = λ l. absurd (omega arith) }
  stops (b ∷ bs) zero = stops_by _ _ b bs refl refl (stops bs)
  stops (b ∷ bs) (suc n) = stops_suc n b bs (suc n) refl (stops bs n)

-- a quote is no control character, and before the braces
pub quote_ascii : (d : StringDelimiter) → (31 < quote_of d) × (quote_of d < 123)
quote_ascii Backtick = (omega arith, omega arith)
quote_ascii _ = (omega arith, omega arith)

delimiter_first : (k : StringKind) (bs : List ℕ) → is_delimiter k bs ≡ true → get_or bs 0 0 ≡ quote_of k.delimiter
delimiter_first k bs h = go k.indented h
  where
    go : (t : Bool) → cond t (eqb (get_or bs 0 0) (quote_of k.delimiter) && eqb (get_or bs 1 0) (quote_of k.delimiter) && eqb (get_or bs 2 0) (quote_of k.delimiter)) (eqb (get_or bs 0 0) (quote_of k.delimiter)) ≡ true → get_or bs 0 0 ≡ quote_of k.delimiter
    go true h = grind (arith, nat_tests)
    go false h = eq_from _ _ h

line_end_ascii : (bs : List ℕ) → is_line_end bs ≡ true → get_or bs 0 0 < 128
line_end_ascii bs h = grind (arith, nat_tests)

text_end_ascii : (bs : List ℕ) → (is_line_end bs || is_interpolation_start bs) ≡ true → get_or bs 0 0 < 128
text_end_ascii bs h = grind (arith, nat_tests)

opening_ascii : (format : Bool) (bs : List ℕ) → (format && is_interpolation_start bs) ≡ true → get_or bs 0 0 < 128
opening_ascii format bs h = grind (arith, nat_tests)

pub end_ascii : (s : RawText) (bs : List ℕ) → ends s bs ≡ true → get_or bs 0 0 < 128
end_ascii Comment bs h = line_end_ascii bs h
end_ascii Body bs h = text_end_ascii bs h
end_ascii (Literal k format) bs h = go (is_delimiter k bs) refl h
  where
    go : (t : Bool) → is_delimiter k bs ≡ t → (t || (format && is_interpolation_start bs)) ≡ true → get_or bs 0 0 < 128
    go true e h = omega (arith, delimiter_first k bs e, (quote_ascii k.delimiter).1)
    go false e h = opening_ascii format bs h

pub raw_cuts : (s : RawText) (rest : List ℕ) → IsCharBoundary rest (raw_len s rest)
raw_cuts s rest =
    let ends' = stops (hides s) (ends s) rest 0 in
    ⊎_elim
    (λ inside. let first = end_ascii s _ (ends'.stop inside) in IsCharBoundary-before_ascii rest (raw_len s rest) inside (omega (arith, first, get_or-drop (raw_len s rest) rest 0 0 ∙ ap (λ i. get_or rest i 0) (add-zero (raw_len s rest)))))
    (λ whole. let e : length rest ≡ raw_len s rest = omega (arith, ends'.within) in subst (IsCharBoundary rest) e (IsCharBoundary-end rest))
    (cases_lt (raw_len s rest) (length rest))

-- ---- comments and body text have no line feed

-- if these bytes have no line feed, neither do those up to the end of the pieces
abbrev pub NoNewline : (List ℕ → ℕ) → (List ℕ → Bool) → List ℕ → ℕ → Type 0
NoNewline hide end bs n = ((i : ℕ) → i < n → eqb (get_or bs i 0) 10 ≡ false) → (i : ℕ) → i < pieces_len hide end n bs → eqb (get_or bs i 0) 10 ≡ false

pub no_newline_in_pieces :
    (hide : List ℕ → ℕ) (end : List ℕ → Bool)
    → ((bs : List ℕ) → ltb 0 (hide bs) ≡ true → (i : ℕ) → i ≤ hide bs → eqb (get_or bs i 0) 10 ≡ false)
    → ((bs : List ℕ) → end bs ≡ false → eqb (get_or bs 0 0) 10 ≡ false)
    → (bs : List ℕ) (n : ℕ) → NoNewline hide end bs n
unfolding pieces_len
no_newline_in_pieces hide end hidden shown [] n = λ before i l. refl
no_newline_in_pieces hide end hidden shown (b ∷ bs) (suc n) = λ before i l. go (no_newline_in_pieces hide end hidden shown bs n) before i l
  where
    go : NoNewline hide end bs n → ((i : ℕ) → i < suc n → eqb (get_or (b ∷ bs) i 0) 10 ≡ false) → (i : ℕ) → i < suc (pieces_len hide end n bs) → eqb (get_or (b ∷ bs) i 0) 10 ≡ false
    go more before zero l = before 0 (omega arith)
    go more before (suc i) l = more (λ i h. before (suc i) (omega arith)) i (omega arith)
no_newline_in_pieces hide end hidden shown (b ∷ bs) zero = λ before i l. go (no_newline_in_pieces hide end hidden shown bs) _ _ refl refl i l
  where
    piece : (k : ℕ) → NoNewline hide end bs k → eqb b 10 ≡ false → ((i : ℕ) → i < k → eqb (get_or bs i 0) 10 ≡ false) → (i : ℕ) → i < suc (pieces_len hide end k bs) → eqb (get_or (b ∷ bs) i 0) 10 ≡ false
    piece k more f before zero l = f
    piece k more f before (suc i) l = more before i (omega arith)

    go : ((k : ℕ) → NoNewline hide end bs k) → (t s : Bool) → ltb 0 (hide (b ∷ bs)) ≡ t → end (b ∷ bs) ≡ s → (i : ℕ) → i < cond t (suc (pieces_len hide end (hide (b ∷ bs)) bs)) (cond s 0 (suc (pieces_len hide end 0 bs))) → eqb (get_or (b ∷ bs) i 0) 10 ≡ false
    go more true s h g i l = piece (hide (b ∷ bs)) (more _) (hidden (b ∷ bs) h 0 (omega arith)) (λ i l. hidden (b ∷ bs) h (suc i) (omega arith)) i l
    go more false true h g i l = absurd (omega arith)
    go more false false h g i l = piece 0 (more _) (shown (b ∷ bs) g) (λ i l. absurd (omega arith)) i l

-- a byte of a comment, which isn't its end
pub comment_no_newline : (bs : List ℕ) → is_line_end bs ≡ false → eqb (get_or bs 0 0) 10 ≡ false
comment_no_newline bs h = grind (arith, nat_tests)

-- a byte of body text, which isn't its end
pub body_no_newline : (bs : List ℕ) → (is_line_end bs || is_interpolation_start bs) ≡ false → eqb (get_or bs 0 0) 10 ≡ false
body_no_newline bs h = grind (arith, nat_tests)

-- the bytes of the escape `{{{{` in body text
pub escape_no_newline : (bs : List ℕ) → ltb 0 (hides Body bs) ≡ true → (i : ℕ) → i ≤ hides Body bs → eqb (get_or bs i 0) 10 ≡ false
escape_no_newline bs h i l = go (is_interpolation_escape bs) refl h i l
  where
    four : (a b c d : ℕ) → (eqb a 123 && eqb b 123 && (eqb c 123 && eqb d 123)) ≡ true → (eqb a 10 ≡ false) × (eqb b 10 ≡ false) × (eqb c 10 ≡ false) × (eqb d 10 ≡ false)
    four a b c d h = (grind (arith, nat_tests), grind (arith, nat_tests), grind (arith, nat_tests), grind (arith, nat_tests))

    is_four : is_interpolation_escape bs ≡ true → (eqb (get_or bs 0 0) 123 && eqb (get_or bs 1 0) 123 && (eqb (get_or bs 2 0) 123 && eqb (get_or bs 3 0) 123)) ≡ true
    is_four e = subst (λ (x : ℕ). (eqb (get_or bs 0 0) 123 && eqb (get_or bs 1 0) 123 && (eqb x 123 && eqb (get_or bs 3 0) 123)) ≡ true) (get_or-drop 2 bs 0 0) (subst (λ (x : ℕ). (eqb (get_or bs 0 0) 123 && eqb (get_or bs 1 0) 123 && (eqb (get_or (drop 2 bs) 0 0) 123 && eqb x 123)) ≡ true) (get_or-drop 2 bs 1 0) e)

    pick : (i : ℕ) → i ≤ 3 → (eqb (get_or bs 0 0) 10 ≡ false) × (eqb (get_or bs 1 0) 10 ≡ false) × (eqb (get_or bs 2 0) 10 ≡ false) × (eqb (get_or bs 3 0) 10 ≡ false) → eqb (get_or bs i 0) 10 ≡ false
    pick zero l f = f.0
    pick (suc zero) l f = f.1
    pick (suc (suc zero)) l f = f.2
    pick (suc (suc (suc zero))) l f = f.3
    pick (suc (suc (suc (suc i)))) l f = absurd (omega arith)

    go : (t : Bool) → is_interpolation_escape bs ≡ t → ltb 0 (cond t 3 0) ≡ true → (i : ℕ) → i ≤ cond t 3 0 → eqb (get_or bs i 0) 10 ≡ false
    go true e h i l = pick i l (four _ _ _ _ (is_four e))
    go false e h i l = cc

pub comment_last : (rest : List ℕ) → 0 < raw_len Comment rest → eqb (get_or rest (raw_len Comment rest - 1) 0) 10 ≡ false
comment_last rest l = no_newline_in_pieces (hides Comment) (ends Comment) (λ bs h. cc) comment_no_newline rest 0 (λ i h. absurd (omega arith)) (raw_len Comment rest - 1) (omega arith)

pub body_last : (rest : List ℕ) → 0 < raw_len Body rest → eqb (get_or rest (raw_len Body rest - 1) 0) 10 ≡ false
body_last rest l = no_newline_in_pieces (hides Body) (ends Body) escape_no_newline body_no_newline rest 0 (λ i h. absurd (omega arith)) (raw_len Body rest - 1) (omega arith)

-- what ends raw text inside the text
pub raw_stops : (s : RawText) (rest : List ℕ) → raw_len s rest < length rest → ends s (drop (raw_len s rest) rest) ≡ true
raw_stops s rest l = (stops (hides s) (ends s) rest 0).stop l

pub raw_within : (s : RawText) (rest : List ℕ) → raw_len s rest ≤ length rest
raw_within s rest = (stops (hides s) (ends s) rest 0).within

pub delimiter_is : (k : StringKind) (bs : List ℕ) → is_delimiter k bs ≡ true → IsUtf8 bs → IsCharBoundary bs (cond k.indented 3 1)
delimiter_is k bs h u = go k.indented h
  where
    q : (31 < quote_of k.delimiter) × (quote_of k.delimiter < 123)
    q = quote_ascii k.delimiter

    at : (i n : ℕ) → get_or bs i 0 ≡ quote_of k.delimiter → i + 1 ≡ n → IsCharBoundary bs n
    at i n e s = after_byte bs i n u (there bs i _ (omega (arith, q.0)) e) (omega (arith, e, q.1)) s

    third : (a b c d : ℕ) → (eqb a d && eqb b d && eqb c d) ≡ true → c ≡ d
    third a b c d h = grind (arith, nat_tests)

    go : (t : Bool) → cond t (eqb (get_or bs 0 0) (quote_of k.delimiter) && eqb (get_or bs 1 0) (quote_of k.delimiter) && eqb (get_or bs 2 0) (quote_of k.delimiter)) (eqb (get_or bs 0 0) (quote_of k.delimiter)) ≡ true → IsCharBoundary bs (cond t 3 1)
    go true h = at 2 3 (third _ _ _ _ h) (omega arith)
    go false h = at 0 1 (eq_from _ _ h) (omega arith)

-- the last byte of a delimiter
pub delimiter_last : (k : StringKind) (bs : List ℕ) → is_delimiter k bs ≡ true → eqb (get_or bs (delimiter_len k - 1) 0) 10 ≡ false
delimiter_last k bs h = go k.indented h
  where
    q : (31 < quote_of k.delimiter) × (quote_of k.delimiter < 123)
    q = quote_ascii k.delimiter

    go : (t : Bool) → cond t (eqb (get_or bs 0 0) (quote_of k.delimiter) && eqb (get_or bs 1 0) (quote_of k.delimiter) && eqb (get_or bs 2 0) (quote_of k.delimiter)) (eqb (get_or bs 0 0) (quote_of k.delimiter)) ≡ true → eqb (get_or bs (cond t 3 1 - 1) 0) 10 ≡ false
    go true h = grind (arith, nat_tests, q.0)
    go false h = grind (arith, nat_tests, q.0)

-- the last byte of a byte order mark
pub mark_last : (rest : List ℕ) → IsUtf8 rest → 0 < length rest → eqb (first_char rest) 65279 ≡ true → eqb (get_or rest 2 0) 10 ≡ false
unfolding lib.Utf8.encode
mark_last rest u l h = go (chars rest) (encodes-chars rest u) h
  where
    go : (cs : List ℕ) → encodes cs ≡ rest → eqb (get_or cs 0 0) 65279 ≡ true → eqb (get_or rest 2 0) 10 ≡ false
    go [] e h = cc
    go (c ∷ cs) e h = subst (λ (r : List ℕ). eqb (get_or r 2 0) 10 ≡ false) e (subst (λ (x : ℕ). eqb (get_or (encodes (x ∷ cs)) 2 0) 10 ≡ false) (sym (eq_from c 65279 h)) refl)
