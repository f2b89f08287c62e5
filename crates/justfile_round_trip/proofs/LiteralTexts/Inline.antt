-- Text that is printed inside a line lexes to the printer's tokens.
use Rattle.std.proofs.Common.{◌≡◌, ◌≢◌, ◌<◌, ℕ, zero, suc, ◌+◌, Bool, true, false, cond, eqb, ltb, List, [], ◌∷◌, ◌++◌, length, get_or, Option, Some, None, Ok, refl, sym, ap, ◌∙◌, subst, arith, append_assoc, length-append}
use Rattle.std.specs.Prelude.{◌&&◌, not, is_some}
use Rattle.std.specs.List.{AllByRecursion, prefix_len, count_by}
use Rattle.std.proofs.lemmas.List.{append-nil}
use Rattle.std.specs.Str.{IsUtf8, bytes_eq}
use Rattle.std.proofs.lemmas.Str.{IsUtf8-from_ascii}
use Rattle.std.proofs.lemmas.Bool.Decides.{nat_tests}
use Rattle.std.proofs.lemmas.Bool.{and_parts, false_from_ne_true, ne_eqb}
use Rattle.std.proofs.Math.Bool.{and-false}
use Rattle.justfile_vocabulary.specs.declared.byte_class.ByteClass.{ByteClass}
use Rattle.justfile_vocabulary.specs.declared.byte_class.ByteClass.TheVariants as classes
use Rattle.justfile_token.specs.declared.delimiter.Delimiter.TheVariants.{FormatString}
use Rattle.justfile_model.specs.declared.open_delimiter.OpenDelimiter.{OpenDelimiter}
use Rattle.justfile_token.specs.declared.string_kind.StringDelimiter.{StringDelimiter}
use Rattle.justfile_token.specs.declared.string_kind.StringDelimiter.TheVariants as delimiters
use Rattle.justfile_token.specs.declared.string_kind.StringKind.{StringKind}
use Rattle.justfile_model.specs.declared.raw_text.RawText.TheVariants as raw_texts
use Rattle.justfile_vocabulary.specs.declared.token_kind.TokenKind.{TokenKind}
use Rattle.justfile_vocabulary.specs.declared.token_kind.TokenKind.TheVariants.{Eof, FormatStringContinue, FormatStringEnd, FormatStringStart, Identifier, Whitespace}
use Rattle.justfile_vocabulary.specs.ByteClass.{class_of}
use Rattle.justfile_model.specs.Lexing.Bytes.{blank, in_word, is_interpolation_end, is_interpolation_start}
use Rattle.justfile_token.specs.StringKind.{delimiter_len, is_quote, kind_of, quote_of, token_kind_of}
use Rattle.justfile_model.specs.Lexing.LiteralText.{raw_len}
use Rattle.justfile_model.specs.Lexing.Tok.{Tok}
use Rattle.justfile_model.specs.Lexing.Places.{is_line_feed}
use Rattle.justfile_model.specs.Lexing.Modes.{Mode, is_empty, opener, mode_after}
use Rattle.justfile_model.specs.Lexing.Next.{token_by_class, token_within_line, next, literal_token, literal_part, is_backtick}
use Rattle.justfile_model.proofs.Lexing.CutLemmas.{word_ascii}
use Rattle.justfile_round_trip.proofs.LiteralTexts.LexedModes.{Sign, sign, placed, space, Lexes, text_of, step, drop_front}

-- each byte passes
abbrev pub Each : (ByteClass → Bool) → List ℕ → Type 0
Each p = AllByRecursion (λ b. p (class_of b) ≡ true)

abbrev pub head_is : (ByteClass → Bool) → List ℕ → Bool
head_is p [] = false
head_is p (c ∷ cs) = p (class_of c)

-- what would go on a word or a literal
abbrev pub joins : ByteClass → Bool
joins classes.IdentifierStart = true
joins classes.IdentifierContinue = true
joins classes.Quote = true
joins _ = false

joins_word : (k : ByteClass) → joins k ≡ false → in_word k ≡ false
joins_word classes.IdentifierStart e = cc
joins_word classes.IdentifierContinue e = cc
joins_word _ e = refl

pub head_word : (more : List ℕ) → head_is joins more ≡ false → head_is in_word more ≡ false
head_word [] h = refl
head_word (c ∷ cs) h = joins_word (class_of c) h

pub run_each : (p : ByteClass → Bool) (cs more : List ℕ) → Each p cs → head_is p more ≡ false → prefix_len (λ b. p (class_of b)) (cs ++ more) ≡ length cs
run_each p [] [] each stop = refl
run_each p [] (d ∷ more) each stop = rw stop refl
run_each p (c ∷ cs) more each stop = rw each.0 (let ih = run_each p cs more each.1 stop in omega (arith, ih))

-- ---- ASCII is UTF-8

pub each_utf8 : (P : ℕ → Type 0) → ((b : ℕ) → P b → b < 128) → (t : List ℕ) → AllByRecursion P t → IsUtf8 t
each_utf8 P ascii t h = IsUtf8-from_ascii t (below t h)
  where
    below : (t : List ℕ) → AllByRecursion P t → (i : ℕ) → get_or t i 0 < 128
    below [] each i = omega arith
    below (b ∷ bs) each zero = ascii b each.0
    below (b ∷ bs) each (suc i) = below bs each.1 i

abbrev pub all_ascii : List ℕ → Bool
all_ascii [] = true
all_ascii (b ∷ bs) = ltb b 128 && all_ascii bs

-- a fixed text
pub fixed_utf8 : (t : List ℕ) → all_ascii t ≡ true → IsUtf8 t
fixed_utf8 t h = IsUtf8-from_ascii t (below t h)
  where
    below : (t : List ℕ) → all_ascii t ≡ true → (i : ℕ) → get_or t i 0 < 128
    below [] h i = omega arith
    below (b ∷ bs) h zero = let p = and_parts (ltb b 128) (all_ascii bs) h in grind (arith, nat_tests)
    below (b ∷ bs) h (suc i) = below bs (and_parts (ltb b 128) (all_ascii bs) h).1 i

-- amid a line: outside bodies, or in an interpolation
abbrev pub amid : List OpenDelimiter → List (List ℕ) → Bool → Option Tok → Bool → Mode
amid os ls c i f = record { openers = os; levels = ls; colon = c; in_body = is_some i; interpolation = i; line_start = false; after_f = f }

pub amid_next : (os : List OpenDelimiter) (ls : List (List ℕ)) (c : Bool) (i : Option Tok) (f : Bool) (x : ℕ) (xs : List ℕ) → (is_empty os && is_interpolation_end (x ∷ xs)) ≡ false → next (amid os ls c i f) (x ∷ xs) ≡ token_by_class (amid os ls c i f) (class_of x) (x ∷ xs)
unfolding next token_within_line
amid_next os ls c None f x xs h = refl
amid_next os ls c (Some t) f x xs h = rw h refl

abbrev pub IsName : List ℕ → Type 0
IsName [] = ⊥
IsName (c ∷ cs) = (class_of c ≡ classes.IdentifierStart) × Each in_word cs

-- ---- fixed words

abbrev all_word : List ℕ → Bool
all_word [] = true
all_word (b ∷ bs) = in_word (class_of b) && all_word bs

each_word : (bs : List ℕ) → all_word bs ≡ true → Each in_word bs
each_word [] h = tt
each_word (b ∷ bs) h = let p = and_parts (in_word (class_of b)) (all_word bs) h in (p.0, each_word bs p.1)

abbrev starts : ByteClass → Bool
starts classes.IdentifierStart = true
starts _ = false

starts_name : (c : ByteClass) → starts c ≡ true → c ≡ classes.IdentifierStart
starts_name classes.IdentifierStart h = refl
starts_name _ h = cc

-- a fixed word that is a name
abbrev pub is_word : List ℕ → Bool
is_word [] = false
is_word (b ∷ bs) = starts (class_of b) && all_word bs

pub word_name : (w : List ℕ) → is_word w ≡ true → IsName w
word_name [] h = cc
word_name (b ∷ bs) h = let p = and_parts (starts (class_of b)) (all_word bs) h in (starts_name (class_of b) p.0, each_word bs p.1)

-- the first byte of a name is no byte of another class
pub start_no : (x y : ℕ) → class_of x ≡ classes.IdentifierStart → (class_of y ≡ classes.IdentifierStart → ⊥) → eqb x y ≡ false
start_no x y h not = ne_eqb x y (λ e. not (subst (λ n. class_of n ≡ classes.IdentifierStart) e h))

starts_no_brace : (x : ℕ) → class_of x ≡ classes.IdentifierStart → eqb x 125 ≡ false
unfolding class_of
starts_no_brace x h = start_no x 125 h (λ e. cc)

pub and_false : (a b c : Bool) → b ≡ false → (a && (b && c)) ≡ false
and_false a b c e = rw e (and-false a)

-- Text that goes on no word and no literal, and is lexed to these tokens after either: whether an `f` came last or not.
pub record Goes (os : List OpenDelimiter) (ls : List (List ℕ)) (c : Bool) (i : Option Tok) (ts : List Sign) : Type 0 where
  pub apart : head_is joins (text_of ts) ≡ false
  pub lexes : (f : Bool) → Lexes (amid os ls c i f) ts

pub goes : {os : List OpenDelimiter} {ls : List (List ℕ)} {c : Bool} {i : Option Tok} {ts : List Sign} → head_is joins (text_of ts) ≡ false → ((f : Bool) → Lexes (amid os ls c i f) ts) → Goes os ls c i ts
goes apart lexes = record { apart = apart; lexes = lexes }

-- a name, where the class of its first byte decides
pub name_from : (m : Mode) (n : List ℕ) {ts : List Sign} → IsName n → head_is in_word (text_of ts) ≡ false
    → ((x : ℕ) (xs : List ℕ) → class_of x ≡ classes.IdentifierStart → next m (x ∷ xs) ≡ token_by_class m (class_of x) (x ∷ xs))
    → ((o l c : ℕ) → Lexes (mode_after Identifier (placed (sign Identifier n) o l c) m) ts) → Lexes m (sign Identifier n ∷ ts)
unfolding token_by_class
name_from m [] h stop found k = absurd h
name_from m (x ∷ xs) {ts} h stop found k =
    let word : Each in_word (x ∷ xs) = (ap in_word h.0, h.1) in
    step m Identifier (x ∷ xs) ts (each_utf8 _ word_ascii (x ∷ xs) word)
    (found x (xs ++ text_of ts) h.0
    ∙ ap (λ q. token_by_class m q (x ∷ xs ++ text_of ts)) h.0
    ∙ ap (λ n. Ok (Identifier, n)) (run_each in_word (x ∷ xs) (text_of ts) word stop))
    (λ e. cc) k

module _ {os : List OpenDelimiter} {ls : List (List ℕ)} {c : Bool} {i : Option Tok} {f : Bool} where
  pub name_step : (n : List ℕ) {ts : List Sign} → IsName n → head_is in_word (text_of ts) ≡ false → Lexes (amid os ls c i (bytes_eq n (102 ∷ []))) ts → Lexes (amid os ls c i f) (sign Identifier n ∷ ts)
  name_step n h stop k = name_from (amid os ls c i f) n h stop (λ x xs e. amid_next os ls c i f x xs (and_false (is_empty os) _ _ (starts_no_brace x e))) (λ o l col. k)

  -- before text that goes on no word
  pub name_then : (n : List ℕ) {ts : List Sign} → IsName n → Goes os ls c i ts → Lexes (amid os ls c i f) (sign Identifier n ∷ ts)
  name_then n {ts} h k = name_step n h (head_word (text_of ts) k.apart) (k.lexes _)

  pub word_step : (w : List ℕ) {ts : List Sign} → is_word w ≡ true → head_is in_word (text_of ts) ≡ false
      → Lexes (amid os ls c i (bytes_eq w (102 ∷ []))) ts → Lexes (amid os ls c i f) (sign Identifier w ∷ ts)
  word_step w h stop k = name_step w (word_name w h) stop k

  pub space_step : {ts : List Sign} → head_is blank (text_of ts) ≡ false → Lexes (amid os ls c i false) ts → Lexes (amid os ls c i f) (space ∷ ts)
  unfolding token_by_class class_of
  space_step {ts} stop k =
      step (amid os ls c i f) Whitespace (32 ∷ []) ts (fixed_utf8 (32 ∷ []) refl)
      (amid_next os ls c i f 32 (text_of ts) (and-false (is_empty os)) ∙ ap (λ n. Ok (Whitespace, n)) (run_each blank (32 ∷ []) (text_of ts) (refl, tt) stop))
      (λ e. cc) (λ o n col. k)

-- Literals.
abbrev pub delimiter_tail : StringKind → List ℕ
delimiter_tail k = cond k.indented (quote_of k.delimiter ∷ quote_of k.delimiter ∷ []) []

abbrev pub delimiter_of : StringKind → List ℕ
delimiter_of k = quote_of k.delimiter ∷ delimiter_tail k

pub delimiter_length : (k : StringKind) → delimiter_len k ≡ length (delimiter_of k)
delimiter_length k = grind arith

quote_class : (d : StringDelimiter) → class_of (quote_of d) ≡ classes.Quote
unfolding class_of
quote_class delimiters.Backtick = refl
quote_class _ = refl

quote_no_brace : (d : StringDelimiter) → eqb (quote_of d) 125 ≡ false
quote_no_brace delimiters.Backtick = refl
quote_no_brace _ = refl

not_all : (xs ys : List ℕ) → is_empty ys ≡ false → eqb (length xs) (length (xs ++ ys)) ≡ false
not_all xs [] h = cc
not_all xs (y ∷ ys) h = let e = length-append xs (y ∷ ys) in grind (arith, nat_tests, e)

-- a part of a literal, after its known front
pub part_is : (k : StringKind) (format : Bool) (pre inner tail : List ℕ) (more whole : TokenKind) → raw_len (raw_texts.Literal k format) (inner ++ tail) ≡ length inner → is_empty tail ≡ false
    → literal_part k format (length pre) more whole (pre ++ (inner ++ tail)) ≡ cond (format && is_interpolation_start tail) (Ok (more, length pre + length inner + 2)) (Ok (whole, length pre + length inner + delimiter_len k))
unfolding literal_part
part_is k format pre inner tail more whole e some = rw (drop_front pre (inner ++ tail)) (rw e (rw (not_all inner tail some) (rw (drop_front inner tail) refl)))

-- a literal, before a byte that doesn't join it
pub record IsLiteral (k : StringKind) (lexeme : List ℕ) : Type 0 where
  pub inner : List ℕ
  pub is : lexeme ≡ delimiter_of k ++ (inner ++ delimiter_of k)
  pub ends : (more : List ℕ) → raw_len (raw_texts.Literal k false) (inner ++ (delimiter_of k ++ more)) ≡ length inner
  pub opens : (more : List ℕ) → is_quote (get_or more 0 0) ≡ false → kind_of (lexeme ++ more) ≡ k

-- a part of a format string, between what opens it and its end: the delimiter, or two braces and a space
abbrev pub closing_of : StringKind → Bool → List ℕ
closing_of k fin = cond fin (delimiter_of k) (123 ∷ 123 ∷ [])

abbrev pub stop_of : Bool → List ℕ
stop_of fin = cond fin [] (32 ∷ [])

pub record IsPart (k : StringKind) (opener : List ℕ) (fin : Bool) (lexeme : List ℕ) : Type 0 where
  pub inner : List ℕ
  pub is : lexeme ≡ opener ++ (inner ++ closing_of k fin)
  pub ends : (more : List ℕ) → raw_len (raw_texts.Literal k true) (inner ++ (closing_of k fin ++ (stop_of fin ++ more))) ≡ length inner

pub assoc3 : (a b c d : List ℕ) → (a ++ (b ++ c)) ++ d ≡ a ++ (b ++ (c ++ d))
assoc3 a b c d = append_assoc a (b ++ c) d ∙ ap (λ x. a ++ x) (append_assoc b c d)

pub length3 : (a b c : List ℕ) (n : ℕ) → length c ≡ n → length a + length b + n ≡ length (a ++ (b ++ c))
length3 a b c n e = omega (arith, e, length-append a (b ++ c), length-append b c)

-- at a quote a literal is next
literal_next : (os : List OpenDelimiter) (ls : List (List ℕ)) (c : Bool) (i : Option Tok) (f : Bool) (k : StringKind) (xs : List ℕ) → next (amid os ls c i f) (delimiter_of k ++ xs) ≡ literal_token (amid os ls c i f) (delimiter_of k ++ xs)
unfolding token_by_class
literal_next os ls c i f k xs =
    amid_next os ls c i f (quote_of k.delimiter) (delimiter_tail k ++ xs) (and_false (is_empty os) _ _ (quote_no_brace k.delimiter))
    ∙ ap (λ q. token_by_class (amid os ls c i f) q (delimiter_of k ++ xs)) (quote_class k.delimiter)

-- of a known kind
literal_of : (m : Mode) (k : StringKind) (format : Bool) (xs : List ℕ) → kind_of (delimiter_of k ++ xs) ≡ k → (m.after_f && not (is_backtick k.delimiter)) ≡ format
    → literal_token m (delimiter_of k ++ xs) ≡ literal_part k format (length (delimiter_of k)) FormatStringStart (token_kind_of k.delimiter) (delimiter_of k ++ xs)
literal_of m k format xs e g =
    ap (λ v. literal_part v (m.after_f && not (is_backtick v.delimiter)) (delimiter_len v) FormatStringStart (token_kind_of v.delimiter) (delimiter_of k ++ xs)) e
    ∙ (λ j. literal_part k (g j) (delimiter_length k j) FormatStringStart (token_kind_of k.delimiter) (delimiter_of k ++ xs))

-- a whole literal, before a text that doesn't begin with a quote
pub literal_again : (m : Mode) (k : StringKind) (l more : List ℕ) → m.after_f ≡ false → IsLiteral k l → is_quote (get_or more 0 0) ≡ false → literal_token m (l ++ more) ≡ Ok (token_kind_of k.delimiter, length l)
literal_again m k l more f h stop =
    let inner = h.inner in
    let tail : List ℕ = inner ++ (delimiter_of k ++ more) in
    let whole : l ++ more ≡ delimiter_of k ++ tail = ap (λ x. x ++ more) h.is ∙ assoc3 (delimiter_of k) inner (delimiter_of k) more in
    let len = length3 (delimiter_of k) inner (delimiter_of k) (delimiter_len k) (sym (delimiter_length k)) ∙ ap length (sym h.is) in
    ap (literal_token m) whole
    ∙ literal_of m k false tail (sym (ap kind_of whole) ∙ h.opens more stop) (ap (λ b. b && not (is_backtick k.delimiter)) f)
    ∙ part_is k false (delimiter_of k) inner (delimiter_of k ++ more) _ _ (h.ends more) refl
    ∙ ap (λ n. Ok (token_kind_of k.delimiter, n)) len

pub quote_is : (b : ℕ) → is_quote b ≡ true → class_of b ≡ classes.Quote
unfolding class_of
quote_is b h = grind (arith, nat_tests)

joins_quote : (more : List ℕ) → head_is joins more ≡ false → is_quote (get_or more 0 0) ≡ false
joins_quote [] h = refl
joins_quote (y ∷ ys) h = false_from_ne_true (is_quote y) (λ e. let bad : true ≡ false = sym (ap joins (quote_is y e)) ∙ h in cc)

kind_not_eof : (d : StringDelimiter) → token_kind_of d ≢ Eof
kind_not_eof delimiters.Backtick e = cc
kind_not_eof _ e = cc

after_literal : (os : List OpenDelimiter) (ls : List (List ℕ)) (c : Bool) (i : Option Tok) (d : StringDelimiter) (f : Bool) (t : Tok) → mode_after (token_kind_of d) t (amid os ls c i f) ≡ amid os ls c i false
after_literal os ls c i delimiters.Backtick f t = refl
after_literal os ls c i _ f t = refl

no_opening : (d : StringDelimiter) (xs : List ℕ) → is_interpolation_start (quote_of d ∷ xs) ≡ false
no_opening delimiters.Backtick xs = refl
no_opening _ xs = refl

brace_next : (os : List OpenDelimiter) (ls : List (List ℕ)) (c : Bool) (i : Option Tok) (k : StringKind) (line : ℕ) (xs : List ℕ) → next (amid (opener (FormatString k) line ∷ os) ls c i false) (125 ∷ 125 ∷ xs) ≡ literal_part k true 2 FormatStringContinue FormatStringEnd (125 ∷ 125 ∷ xs)
unfolding token_by_class class_of
brace_next os ls c i k line xs = amid_next (opener (FormatString k) line ∷ os) ls c i false 125 (125 ∷ xs) refl

module _ {os : List OpenDelimiter} {ls : List (List ℕ)} {c : Bool} {i : Option Tok} where
  pub literal_step : (k : StringKind) (l : List ℕ) {ts : List Sign} → IsLiteral k l → IsUtf8 l → head_is joins (text_of ts) ≡ false → Lexes (amid os ls c i false) ts → Lexes (amid os ls c i false) (sign (token_kind_of k.delimiter) l ∷ ts)
  literal_step k l {ts} h u stop r =
      let m : Mode = amid os ls c i false in
      let more : List ℕ = text_of ts in
      let whole : l ++ more ≡ delimiter_of k ++ (h.inner ++ (delimiter_of k ++ more)) = ap (λ x. x ++ more) h.is ∙ assoc3 (delimiter_of k) h.inner (delimiter_of k) more in
      step m (token_kind_of k.delimiter) l ts u
      (ap (next m) whole ∙ literal_next os ls c i false k _ ∙ sym (ap (literal_token m) whole) ∙ literal_again m k l more refl h (joins_quote more stop))
      (kind_not_eof k.delimiter)
      (λ o n col. subst (λ m. Lexes m ts) (sym (after_literal os ls c i k.delimiter false _)) r)

  -- after `f`: a format string without interpolations
  pub whole_step : (k : StringKind) (l : List ℕ) {ts : List Sign} → (h : IsLiteral k l) → IsUtf8 l → ((more : List ℕ) → raw_len (raw_texts.Literal k true) (h.inner ++ (delimiter_of k ++ more)) ≡ length h.inner) → is_backtick k.delimiter ≡ false
      → head_is joins (text_of ts) ≡ false → Lexes (amid os ls c i false) ts → Lexes (amid os ls c i true) (sign (token_kind_of k.delimiter) l ∷ ts)
  whole_step k l {ts} h u ends quote stop r =
      let m : Mode = amid os ls c i true in
      let more : List ℕ = text_of ts in
      let inner = h.inner in
      let tail : List ℕ = inner ++ (delimiter_of k ++ more) in
      let whole : l ++ more ≡ delimiter_of k ++ tail = ap (λ x. x ++ more) h.is ∙ assoc3 (delimiter_of k) inner (delimiter_of k) more in
      let len = length3 (delimiter_of k) inner (delimiter_of k) (delimiter_len k) (sym (delimiter_length k)) ∙ ap length (sym h.is) in
      step m (token_kind_of k.delimiter) l ts u
      (ap (next m) whole
      ∙ literal_next os ls c i true k tail
      ∙ literal_of m k true tail (sym (ap kind_of whole) ∙ h.opens more (joins_quote more stop)) (ap not quote)
      ∙ part_is k true (delimiter_of k) inner (delimiter_of k ++ more) FormatStringStart (token_kind_of k.delimiter) (ends more) refl
      ∙ ap (λ b. cond b (Ok (FormatStringStart, length (delimiter_of k) + length inner + 2)) (Ok (token_kind_of k.delimiter, length (delimiter_of k) + length inner + delimiter_len k))) (no_opening k.delimiter (delimiter_tail k ++ more))
      ∙ ap (λ n. Ok (token_kind_of k.delimiter, n)) len)
      (kind_not_eof k.delimiter)
      (λ o n col. subst (λ m. Lexes m ts) (sym (after_literal os ls c i k.delimiter true _)) r)

  -- after f: up to two braces
  pub start_step : (k : StringKind) (l : List ℕ) {ts : List Sign} → IsPart k (delimiter_of k) false l → IsUtf8 l → is_backtick k.delimiter ≡ false → ((more : List ℕ) → kind_of (l ++ more) ≡ k)
      → ((line : ℕ) → Lexes (amid (opener (FormatString k) line ∷ os) ls c i false) (space ∷ ts)) → Lexes (amid os ls c i true) (sign FormatStringStart l ∷ space ∷ ts)
  start_step k l {ts} h u quote opens r =
      let inner = h.inner in
      let more : List ℕ = text_of ts in
      let tail : List ℕ = inner ++ (123 ∷ 123 ∷ 32 ∷ more) in
      let whole : l ++ (32 ∷ more) ≡ delimiter_of k ++ tail = ap (λ x. x ++ (32 ∷ more)) h.is ∙ assoc3 (delimiter_of k) inner (123 ∷ 123 ∷ []) (32 ∷ more) in
      let len = length3 (delimiter_of k) inner (123 ∷ 123 ∷ []) 2 refl ∙ ap length (sym h.is) in
      let kind : kind_of l ≡ k = ap kind_of (sym (append-nil l)) ∙ opens [] in
      step (amid os ls c i true) FormatStringStart l (space ∷ ts) u
      (ap (next (amid os ls c i true)) whole
      ∙ literal_next os ls c i true k tail
      ∙ literal_of (amid os ls c i true) k true tail (sym (ap kind_of whole) ∙ opens (32 ∷ more)) (ap not quote)
      ∙ part_is k true (delimiter_of k) inner (123 ∷ 123 ∷ 32 ∷ more) FormatStringStart (token_kind_of k.delimiter) (h.ends more) refl
      ∙ ap (λ n. Ok (FormatStringStart, n)) len)
      (λ e. cc)
      (λ o n col. subst (λ v. Lexes (amid (opener (FormatString v) (n + count_by is_line_feed l) ∷ os) ls c i false) (space ∷ ts)) (sym kind) (r _))

  pub continue_step : (k : StringKind) (line : ℕ) (l : List ℕ) {ts : List Sign} → IsPart k (125 ∷ 125 ∷ []) false l → IsUtf8 l
      → Lexes (amid (opener (FormatString k) line ∷ os) ls c i false) (space ∷ ts) → Lexes (amid (opener (FormatString k) line ∷ os) ls c i false) (sign FormatStringContinue l ∷ space ∷ ts)
  continue_step k line l {ts} h u r =
      let inner = h.inner in
      let more : List ℕ = text_of ts in
      let tail : List ℕ = inner ++ (123 ∷ 123 ∷ 32 ∷ more) in
      let m = amid (opener (FormatString k) line ∷ os) ls c i false in
      let whole : l ++ (32 ∷ more) ≡ 125 ∷ 125 ∷ tail = ap (λ x. x ++ (32 ∷ more)) h.is ∙ assoc3 (125 ∷ 125 ∷ []) inner (123 ∷ 123 ∷ []) (32 ∷ more) in
      let len = length3 (125 ∷ 125 ∷ []) inner (123 ∷ 123 ∷ []) 2 refl ∙ ap length (sym h.is) in
      step m FormatStringContinue l (space ∷ ts) u
      (ap (next m) whole ∙ brace_next os ls c i k line tail ∙ part_is k true (125 ∷ 125 ∷ []) inner (123 ∷ 123 ∷ 32 ∷ more) FormatStringContinue FormatStringEnd (h.ends more) refl ∙ ap (λ n. Ok (FormatStringContinue, n)) len)
      (λ e. cc) (λ o n col. r)

  pub end_step : (k : StringKind) (line : ℕ) (l : List ℕ) {ts : List Sign} → IsPart k (125 ∷ 125 ∷ []) true l → IsUtf8 l
      → Lexes (amid os ls c i false) ts → Lexes (amid (opener (FormatString k) line ∷ os) ls c i false) (sign FormatStringEnd l ∷ ts)
  end_step k line l {ts} h u r =
      let inner = h.inner in
      let more : List ℕ = text_of ts in
      let tail : List ℕ = inner ++ (delimiter_of k ++ more) in
      let m = amid (opener (FormatString k) line ∷ os) ls c i false in
      let whole : l ++ more ≡ 125 ∷ 125 ∷ tail = ap (λ x. x ++ more) h.is ∙ assoc3 (125 ∷ 125 ∷ []) inner (delimiter_of k) more in
      let len = length3 (125 ∷ 125 ∷ []) inner (delimiter_of k) (delimiter_len k) (sym (delimiter_length k)) ∙ ap length (sym h.is) in
      step m FormatStringEnd l ts u
      (ap (next m) whole ∙ brace_next os ls c i k line tail ∙ part_is k true (125 ∷ 125 ∷ []) inner (delimiter_of k ++ more) FormatStringContinue FormatStringEnd (h.ends more) refl
      ∙ ap (λ b. cond b (Ok (FormatStringContinue, length {A = ℕ} (125 ∷ 125 ∷ []) + length inner + 2)) (Ok (FormatStringEnd, length {A = ℕ} (125 ∷ 125 ∷ []) + length inner + delimiter_len k))) (no_opening k.delimiter (delimiter_tail k ++ more))
      ∙ ap (λ n. Ok (FormatStringEnd, n)) len)
      (λ e. cc) (λ o n col. r)
