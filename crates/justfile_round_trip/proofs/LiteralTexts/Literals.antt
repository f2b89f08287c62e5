-- A literal that was lexed ends at the same position before any text that can be printed after it.
use Rattle.std.proofs.Common.{◌≡◌, ℕ, zero, suc, ◌<◌, Bool, true, false, cond, eqb, ltb, List, [], ◌∷◌, ◌++◌, length, get_or, drop, refl, ap, ◌∙◌, subst, arith}
use Rattle.std.specs.Prelude.{◌&&◌, ◌||◌}
use Rattle.std.proofs.lemmas.Bool.{and_parts}
use Rattle.std.proofs.lemmas.Bool.Decides.{nat_tests}
use Rattle.std.specs.Char.{is_ascii_alphabetic, is_ascii_digit}
use Rattle.std.proofs.lemmas.List.{get_or-drop, drop-drop}
use Rattle.justfile_vocabulary.specs.declared.byte_class.ByteClass.{ByteClass}
use Rattle.justfile_vocabulary.specs.declared.byte_class.ByteClass.TheVariants as classes
use Rattle.justfile_token.specs.declared.string_kind.StringDelimiter.{StringDelimiter}
use Rattle.justfile_token.specs.declared.string_kind.StringDelimiter.TheVariants as delimiters
use Rattle.justfile_token.specs.declared.string_kind.StringKind.{StringKind}
use Rattle.justfile_vocabulary.specs.ByteClass.{class_of, begins_fixed}
use Rattle.justfile_token.specs.StringKind.{delimiter_len, delimiter_at, is_quote, kind_of, quote_of}
use Rattle.justfile_model.specs.declared.raw_text.RawText.TheVariants as raw_texts
use Rattle.justfile_model.specs.Lexing.LiteralText.{pieces_len, hides, ends, is_delimiter}
use Rattle.justfile_round_trip.proofs.LiteralTexts.Inline.{delimiter_of}

-- ---- delimiters

-- what the class of a byte says of it
abbrev ClassFact : ℕ → ByteClass → Type 0
ClassFact b classes.CarriageReturn = b ≡ 13
ClassFact b classes.Quote = quote_of (delimiter_at b) ≡ b
ClassFact b _ = Unit {0}

record IsOfClass (b : ℕ) (k : ByteClass) : Type 0 where
  fact : ClassFact b k

either : (b : ℕ) (t : Bool) {x y : ByteClass} → (t ≡ true → IsOfClass b x) → (t ≡ false → IsOfClass b y) → IsOfClass b (cond t x y)
either b true f g = f refl
either b false f g = g refl

quoted : (b : ℕ) → (eqb b 39 || eqb b 34 || eqb b 96) ≡ true → quote_of (delimiter_at b) ≡ b
quoted b h = grind (arith, nat_tests)

is_of_class : (b : ℕ) → IsOfClass b (class_of b)
unfolding class_of
is_of_class b =
    either b (eqb b 32 || eqb b 9) (λ h. record { fact = tt }) (λ _.
    either b (eqb b 10) (λ h. record { fact = tt }) (λ _.
    either b (eqb b 13) (λ h. record { fact = grind (arith, nat_tests) }) (λ _.
    either b (is_ascii_alphabetic b || eqb b 95) (λ h. record { fact = tt }) (λ _.
    either b (is_ascii_digit b || eqb b 45) (λ h. record { fact = tt }) (λ _.
    either b (eqb b 39 || eqb b 34 || eqb b 96) (λ h. record { fact = quoted b h }) (λ _.
    either b (eqb b 40 || eqb b 91 || eqb b 123) (λ h. record { fact = tt }) (λ _.
    either b (eqb b 41 || eqb b 93 || eqb b 125) (λ h. record { fact = tt }) (λ _.
    either b (begins_fixed b) (λ h. record { fact = tt }) (λ _.
    either b (ltb 193 b && ltb b 245) {x = classes.Lead} {y = classes.Other} (λ h. record { fact = tt }) (λ _. record { fact = tt }))))))))))

pub quote_byte : (b : ℕ) → class_of b ≡ classes.Quote → quote_of (delimiter_at b) ≡ b
quote_byte b e = (subst (IsOfClass b) e (is_of_class b)).fact

pub return_byte : (b : ℕ) → class_of b ≡ classes.CarriageReturn → b ≡ 13
return_byte b e = (subst (IsOfClass b) e (is_of_class b)).fact

quote_positive : (d : StringDelimiter) → 0 < quote_of d
quote_positive delimiters.Backtick = omega arith
quote_positive _ = omega arith

-- if the byte at the front isn't 0, the text begins with it
pub front_byte : (bs : List ℕ) (q : ℕ) → 0 < q → eqb (get_or bs 0 0) q ≡ true → bs ≡ q ∷ drop 1 bs
front_byte [] q p h = absurd (grind (arith, nat_tests))
front_byte (x ∷ xs) q p h = let e : x ≡ q = grind (arith, nat_tests) in ap (λ y. y ∷ xs) e

-- where a delimiter is at the front, its bytes are
pub delimiter_front : (k : StringKind) (bs : List ℕ) → is_delimiter k bs ≡ true → bs ≡ delimiter_of k ++ drop (delimiter_len k) bs
delimiter_front k bs h = go k.indented h
  where
    q : ℕ
    q = quote_of k.delimiter

    some : 0 < q
    some = quote_positive k.delimiter

    go : (t : Bool) → cond t (eqb (get_or bs 0 0) q && eqb (get_or bs 1 0) q && eqb (get_or bs 2 0) q) (eqb (get_or bs 0 0) q) ≡ true → bs ≡ q ∷ (cond t (q ∷ q ∷ []) [] ++ drop (cond t 3 1) bs)
    go true h =
        let last = and_parts (eqb (get_or bs 0 0) q && eqb (get_or bs 1 0) q) _ h in
        let firsts = and_parts (eqb (get_or bs 0 0) q) _ last.0 in
        front_byte bs q some firsts.0
        ∙ ap (λ l. q ∷ l) (front_byte (drop 1 bs) q some (ap (λ b. eqb b q) (get_or-drop 1 bs 0 0) ∙ firsts.1) ∙ ap (λ l. q ∷ l) (drop-drop 1 1 bs))
        ∙ ap (λ l. q ∷ q ∷ l) (front_byte (drop 2 bs) q some (ap (λ b. eqb b q) (get_or-drop 2 bs 0 0) ∙ last.1) ∙ ap (λ l. q ∷ l) (drop-drop 1 2 bs))
    go false h = front_byte bs q some h

-- a text that begins with a quote begins with the delimiter of its kind
pub delimiter_there : (bs : List ℕ) → class_of (get_or bs 0 0) ≡ classes.Quote → is_delimiter (kind_of bs) bs ≡ true
delimiter_there bs e = let is = quote_byte (get_or bs 0 0) e in grind (arith, nat_tests)

-- ---- scans

-- the delimiter ends a scan, as nothing hides it
abbrev pub scan : StringKind → Bool → ℕ → List ℕ → ℕ
scan k format = pieces_len (hides (raw_texts.Literal k format)) (ends (raw_texts.Literal k format))

pub delimiter_ends : (d : StringDelimiter) (i : Bool) (more : List ℕ) → scan (record { delimiter = d; indented = i }) false 0 (delimiter_of (record { delimiter = d; indented = i }) ++ more) ≡ 0
unfolding pieces_len
delimiter_ends delimiters.Backtick true more = refl
delimiter_ends _ true more = refl
delimiter_ends _ _ more = refl

-- whether a delimiter begins inside or at the end of the text is seen from the text and the delimiter after it
pub same_delimiter : (d : StringDelimiter) (i : Bool) (x : ℕ) (xs a b : List ℕ) → is_delimiter (record { delimiter = d; indented = i }) (x ∷ xs ++ (delimiter_of (record { delimiter = d; indented = i }) ++ a)) ≡ is_delimiter (record { delimiter = d; indented = i }) (x ∷ xs ++ (delimiter_of (record { delimiter = d; indented = i }) ++ b))
same_delimiter d true x (y ∷ z ∷ zs) a b = refl
same_delimiter d _ x xs a b = refl

-- a text that is scanned up to the delimiter is scanned up to it before any other text
pub stable : (k : StringKind) (hidden : ℕ) (inner a b : List ℕ) → scan k false hidden (inner ++ (delimiter_of k ++ a)) ≡ length inner → scan k false hidden (inner ++ (delimiter_of k ++ b)) ≡ length inner
unfolding pieces_len
stable k zero [] a b e = delimiter_ends k.delimiter k.indented b
stable k (suc n) [] a b e = absurd (omega arith)
stable k (suc n) (x ∷ xs) a b e = ap suc (stable k n xs a b (omega arith))
stable k zero (x ∷ xs) a b e =
    grind (arith, same_delimiter k.delimiter k.indented x xs a b, stable k (hides (raw_texts.Literal k false) (x ∷ xs)) xs a b, stable k 0 xs a b)

-- ---- the kind of a literal

pub no_quote : (d : StringDelimiter) (b : ℕ) → is_quote b ≡ false → eqb b (quote_of d) ≡ false
no_quote delimiters.Backtick b h = grind (arith, nat_tests)
no_quote _ b h = grind (arith, nat_tests)

-- before a text that doesn't begin with a quote, the kind of a literal is read again
pub same_opening : (d : StringDelimiter) (i : Bool) (inner following more : List ℕ) → is_quote (get_or more 0 0) ≡ false
    → kind_of (delimiter_of (record { delimiter = d; indented = i }) ++ (inner ++ (delimiter_of (record { delimiter = d; indented = i }) ++ following))) ≡ record { delimiter = d; indented = i }
    → kind_of (delimiter_of (record { delimiter = d; indented = i }) ++ (inner ++ (delimiter_of (record { delimiter = d; indented = i }) ++ more))) ≡ record { delimiter = d; indented = i }
same_opening delimiters.Backtick true inner following more stop e = refl
same_opening _ true inner following more stop e = refl
same_opening delimiters.Backtick false [] following more stop e = ap (λ b. record { delimiter = delimiters.Backtick; indented = b }) (no_quote delimiters.Backtick (get_or more 0 0) stop)
same_opening d false [] following more stop e = ap (λ b. record { delimiter = d; indented = b }) (no_quote d (get_or more 0 0) stop)
same_opening d false (x ∷ []) following more stop e = e
same_opening d false (x ∷ y ∷ ys) following more stop e = e
