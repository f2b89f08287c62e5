-- The token at the start of a text has its properties: a name, a literal, a comment.
use Rattle.std.proofs.Common.{◌≡◌, ℕ, zero, suc, ◌+◌, ◌<◌, Bool, true, false, cond, eqb, List, [], ◌∷◌, ◌++◌, length, get_or, take, drop, Option, Some, None, Ok, Err, refl, sym, ap, ◌∙◌, subst, arith, length-append, length-take, take-append-drop}
use Rattle.std.specs.Prelude.{◌&&◌, ◌||◌, not, nat_eq}
use Rattle.std.specs.Str.{bytes_eq}
use Rattle.std.specs.List.{prefix_len, starts_with}
use Rattle.std.proofs.lemmas.Bool.{and_parts, not-true}
use Rattle.std.proofs.lemmas.Bool.Decides.{nat_tests}
use Rattle.std.proofs.lemmas.List.{append-nil}
use Rattle.justfile_vocabulary.specs.declared.byte_class.ByteClass.{ByteClass}
use Rattle.justfile_vocabulary.specs.declared.byte_class.ByteClass.TheVariants as classes
use Rattle.std.proofs.Math.Bool.{or-false}
use Rattle.justfile_token.specs.declared.delimiter.Delimiter.{Delimiter}
use Rattle.justfile_token.specs.declared.delimiter.Delimiter.TheVariants.{Brace, Bracket, Paren}
use Rattle.justfile_token.specs.declared.string_kind.StringDelimiter.{StringDelimiter}
use Rattle.justfile_token.specs.declared.string_kind.StringDelimiter.TheVariants as delimiters
use Rattle.justfile_token.specs.declared.string_kind.StringKind.{StringKind}
use Rattle.justfile_vocabulary.specs.declared.token_kind.TokenKind.{TokenKind}
use Rattle.justfile_vocabulary.specs.declared.token_kind.TokenKind.TheVariants as kinds
use Rattle.justfile_vocabulary.specs.ByteClass.{class_of}
use Rattle.justfile_token.specs.StringKind.{delimiter_len, is_quote, kind_of, token_kind_of}
use Rattle.justfile_model.specs.declared.open_delimiter.OpenDelimiter.{OpenDelimiter}
use Rattle.justfile_model.specs.declared.raw_text.RawText.TheVariants as raw_texts
use Rattle.justfile_model.specs.Lexing.Bytes.{in_word, word_len, is_line_end, is_interpolation_start, is_interpolation_end, is_mixed, closes_levels, first_char}
use Rattle.justfile_model.specs.Lexing.LiteralText.{raw_len, is_delimiter, pieces_len}
use Rattle.justfile_model.specs.Lexing.LexicalFault.{LexicalError}
use Rattle.justfile_model.specs.Lexing.Tok.{Tok}
use Rattle.justfile_model.specs.Lexing.Modes.{Mode, is_empty, head_of, innermost, nested}
use Rattle.justfile_model.specs.Lexing.Next.{NextToken, format_kind, doubled_token, fixed_token, opening, literal_part, literal_token, is_backtick, is_same, closing_delimiter, brace_by, closing, line_end_token, escaped_line_end, token_by_class, token_outside_text, text_or, body_token, at_end_by, Region, InText, InInterpolation, OutsideText, token_in_region, token_within_line, blanks_or, tested_blanks, is_level, layout, begins_blank_line, next_by, next}
use Rattle.justfile_model.proofs.Lexing.CutLemmas.{raw_stops, raw_within}
use Rattle.justfile_round_trip.proofs.LiteralTexts.LexedModes.{drop_front}
use Rattle.justfile_round_trip.proofs.LiteralTexts.Inline.{Each, IsName, IsPart, delimiter_of, delimiter_length, assoc3, length3, literal_again, quote_is}
use Rattle.justfile_round_trip.proofs.Good.{IsDelimited, IsString, IsCommand, IsFormatLiteral, IsFormatStart, IsPartOf, IsPartOfOpen}
use Rattle.justfile_round_trip.proofs.LiteralTexts.FormatScans.{braces_front, closers_front, same_front, stable_closing, part_cut, start_opens}
use Rattle.justfile_round_trip.proofs.LiteralTexts.LiteralModes.{whole_ends}
use Rattle.justfile_round_trip.proofs.LiteralTexts.Literals.{delimiter_front, delimiter_there, stable, same_opening}

-- a comment, up to the end of its line
pub record WasComment (l following : List ℕ) : Type 0 where
  pub first : get_or l 0 0 ≡ 35
  pub ends : raw_len raw_texts.Comment (l ++ following) ≡ length l
  pub stop : begins_blank_line following ≡ true

-- the properties of a lexeme that is read in a mode, and of the text after it
abbrev pub Fact : Mode → TokenKind → (l following : List ℕ) → Type 0
Fact m kinds.Identifier l following = IsName l
Fact m kinds.StringToken l following = IsString l × (m.after_f ≡ true → IsFormatLiteral l)
Fact m kinds.FormatStringStart l following = IsFormatStart l
Fact m kinds.FormatStringContinue l following = IsPartOfOpen (format_kind (head_of m.openers)) false l
Fact m kinds.FormatStringEnd l following = IsPartOfOpen (format_kind (head_of m.openers)) true l
Fact m kinds.Backtick l following = IsCommand l
Fact m kinds.Comment l following = WasComment l following
Fact m _ l following = Unit {0}

abbrev FactBy : Mode → List ℕ → NextToken → Type 0
FactBy m rest (Ok x) = (l following : List ℕ) → rest ≡ l ++ following → x.1 ≡ length l → Fact m x.0 l following
FactBy m rest (Err r) = Unit {0}

-- tokens other than indents, dedents, the end, and those of bodies alone
abbrev pub plain : TokenKind → Bool
plain kinds.Text = false
plain kinds.Indent = false
plain kinds.Dedent = false
plain kinds.Eof = false
plain kinds.InterpolationStart = false
plain kinds.InterpolationEnd = false
plain _ = true

abbrev PlainBy : NextToken → Type 0
PlainBy (Ok x) = plain x.0 ≡ true
PlainBy (Err r) = Unit {0}

pub record Plain (found : NextToken) : Type 0 where
  pub by : PlainBy found

-- a token with its property, which is a plain one if it is found outside the text of bodies
record Finds (outside : Bool) (m : Mode) (rest : List ℕ) (found : NextToken) : Type 0 where
  fact : FactBy m rest found
  plain : outside ≡ true → PlainBy found

-- ---- names

each_from : (p : ByteClass → Bool) (xs following : List ℕ) → prefix_len (λ b. p (class_of b)) (xs ++ following) ≡ length xs → Each p xs
each_from p [] following e = tt
each_from p (x ∷ xs) following e = (grind arith, each_from p xs following (grind arith))

name_fact : (l following : List ℕ) → class_of (get_or (l ++ following) 0 0) ≡ classes.IdentifierStart → word_len (l ++ following) ≡ length l → IsName l
unfolding class_of
name_fact [] [] h e = cc
name_fact [] (y ∷ ys) h e = absurd (let none : 1 + word_len ys ≡ 0 = sym (ap (λ t. cond t (1 + word_len ys) 0) (ap in_word h)) ∙ e in omega (arith, none))
name_fact (x ∷ xs) following h e = (h, (each_from in_word (x ∷ xs) following e).1)

-- ---- comments

no_comment : (bs : List ℕ) → eqb (get_or bs 0 0) 35 ≡ true → raw_len raw_texts.Comment bs ≡ 0 → ⊥
unfolding pieces_len
no_comment [] h e = cc
no_comment (x ∷ xs) h e =
    let at : x ≡ 35 = grind (arith, nat_tests) in
    let one : raw_len raw_texts.Comment (35 ∷ xs) ≡ 0 = subst (λ y. raw_len raw_texts.Comment (y ∷ xs) ≡ 0) at e in
    omega arith

comment_fact : (l following : List ℕ) → eqb (get_or (l ++ following) 0 0) 35 ≡ true → raw_len raw_texts.Comment (l ++ following) ≡ length l → WasComment l following
comment_fact [] following h e = absurd (no_comment following h e)
comment_fact (x ∷ xs) following h e = record { first = grind (arith, nat_tests); ends = e; stop = stops following e }
  where
    stops : (following : List ℕ) → raw_len raw_texts.Comment (x ∷ xs ++ following) ≡ length (x ∷ xs) → begins_blank_line following ≡ true
    stops [] e = refl
    stops (y ∷ ys) e =
        let inside : raw_len raw_texts.Comment (x ∷ xs ++ (y ∷ ys)) < length (x ∷ xs ++ (y ∷ ys)) = omega (arith, e, length-append (x ∷ xs) (y ∷ ys)) in
        let at = raw_stops raw_texts.Comment (x ∷ xs ++ (y ∷ ys)) inside in
        let here : is_line_end (y ∷ ys) ≡ true = sym (ap is_line_end (ap (λ n. drop n (x ∷ xs ++ (y ∷ ys))) e ∙ drop_front (x ∷ xs) (y ∷ ys))) ∙ at in
        ap (λ b. b || false) here

-- ---- literals

or_left : (a b : Bool) → (a || b) ≡ true → b ≡ false → a ≡ true
or_left a b h e = sym (or-false a) ∙ sym (ap (λ c. a || c) e) ∙ h

-- a literal between its delimiters, which was read in format mode or not
record IsDelimitedBy (k : StringKind) (format : Bool) (l : List ℕ) : Type 0 where
  delimited : IsDelimited (token_kind_of k.delimiter) l
  whole : format ≡ true → (more : List ℕ) → raw_len (raw_texts.Literal delimited.kind true) (delimited.literal.inner ++ (delimiter_of delimited.kind ++ more)) ≡ length delimited.literal.inner

module _ (k : StringKind) (format : Bool) (rest : List ℕ) where
  after : List ℕ
  after = drop (delimiter_len k) rest

  within : ℕ
  within = raw_len (raw_texts.Literal k format) after

  literal_fact : kind_of rest ≡ k → is_delimiter k rest ≡ true → eqb within (length after) ≡ false → (format && is_interpolation_start (drop within after)) ≡ false → (l following : List ℕ)
      → rest ≡ l ++ following → delimiter_len k + within + delimiter_len k ≡ length l → IsDelimitedBy k format l
  unfolding after within
  literal_fact is_kind opened unfinished no_start l following split len =
      let inner : List ℕ = take within after in
      let tail : List ℕ = drop (delimiter_len k) (drop within after) in
      let fits = raw_within (raw_texts.Literal k format) after in
      let inside : within < length after = grind (arith, nat_tests) in
      let stop = or_left (is_delimiter k (drop within after)) (format && is_interpolation_start (drop within after)) (raw_stops (raw_texts.Literal k format) after inside) no_start in
      let size : length inner ≡ within = omega (arith, length-take within after) in
      let after_is : after ≡ inner ++ (delimiter_of k ++ tail) = sym (take-append-drop within after) ∙ ap (λ t. inner ++ t) (delimiter_front k (drop within after) stop) in
      let rest_is : rest ≡ delimiter_of k ++ (inner ++ (delimiter_of k ++ tail)) = delimiter_front k rest opened ∙ ap (λ t. delimiter_of k ++ t) after_is in
      let whole : rest ≡ (delimiter_of k ++ (inner ++ delimiter_of k)) ++ tail = rest_is ∙ sym (assoc3 (delimiter_of k) inner (delimiter_of k) tail) in
      let len' : length l ≡ length (delimiter_of k ++ (inner ++ delimiter_of k)) = omega (arith, len, size, delimiter_length k, length3 (delimiter_of k) inner (delimiter_of k) (delimiter_len k) (sym (delimiter_length k))) in
      let same = same_front l following (delimiter_of k ++ (inner ++ delimiter_of k)) tail (sym split ∙ whole) len' in
      record {
        delimited = record {
          kind = k;
          is_token = refl;
          literal = record {
            inner = inner;
            is = same.0;
            ends = λ more. stable k 0 inner tail more (ap (raw_len (raw_texts.Literal k false)) (sym after_is) ∙ plain format no_start ∙ sym size);
            opens = λ more unquoted. ap kind_of (ap (λ t. t ++ more) same.0 ∙ assoc3 (delimiter_of k) inner (delimiter_of k) more) ∙ same_opening k.delimiter k.indented inner tail more unquoted (ap kind_of (sym rest_is) ∙ is_kind);
          };
        };
        whole = λ f more. stable_closing k true inner tail more (ap (raw_len (raw_texts.Literal k true)) (sym after_is) ∙ ap (λ b. raw_len (raw_texts.Literal k b) after) (sym f) ∙ sym size);
      }
    where
      plain : (b : Bool) → (b && is_interpolation_start (drop (raw_len (raw_texts.Literal k b) after) after)) ≡ false → raw_len (raw_texts.Literal k false) after ≡ raw_len (raw_texts.Literal k b) after
      plain true h = whole_ends k after h
      plain false h = refl

-- ---- the token that is found, by the class of the first byte and by the region

module _ (outside : Bool) (m : Mode) (rest : List ℕ) where
  if_finds : (b : Bool) {x y : NextToken} → (b ≡ true → Finds outside m rest x) → (b ≡ false → Finds outside m rest y) → Finds outside m rest (cond b x y)
  if_finds true f g = f refl
  if_finds false f g = g refl

  -- a token of which nothing more is to be known
  any : (k : TokenKind) (n : ℕ) → ((l following : List ℕ) → Fact m k l following) → plain k ≡ true → Finds outside m rest (Ok (k, n))
  any k n f p = record { fact = λ l following e len. f l following; plain = λ _. p }

  -- in a body or at the start of a line
  other : outside ≡ false → (k : TokenKind) (n : ℕ) → ((l following : List ℕ) → Fact m k l following) → Finds outside m rest (Ok (k, n))
  other inside k n f = record { fact = λ l following e len. f l following; plain = λ o. let bad : true ≡ false = sym o ∙ inside in cc }

  refused : {r : LexicalError} → Finds outside m rest (Err r)
  refused = record { fact = tt; plain = λ _. tt }

  twice_finds : (b : ℕ) (k : TokenKind) → ((l following : List ℕ) → Fact m k l following) → plain k ≡ true → Finds outside m rest (doubled_token b k rest)
  twice_finds b k f p = if_finds (eqb (get_or rest 1 0) b) (λ _. any k 2 f p) (λ _. if_finds (eqb (length (drop 1 rest)) 0) (λ _. refused) (λ _. refused))

  fixed_finds : (b : ℕ) → Finds outside m rest (fixed_token b rest)
  unfolding fixed_token
  fixed_finds b =
      let c = get_or rest 1 0 in
      if_finds (eqb b 33)
      (λ _. if_finds (eqb c 61) (λ _. any _ _ (λ l i. tt) refl) (λ _. if_finds (eqb c 126) (λ _. any _ _ (λ l i. tt) refl) (λ _. any _ _ (λ l i. tt) refl))) (λ _.
      if_finds (eqb b 38) (λ _. twice_finds 38 _ (λ l i. tt) refl) (λ _.
      if_finds (eqb b 124) (λ _. twice_finds 124 _ (λ l i. tt) refl) (λ _.
      if_finds (eqb b 43) (λ _. if_finds (eqb c 43) (λ _. any _ _ (λ l i. tt) refl) (λ _. any _ _ (λ l i. tt) refl)) (λ _.
      if_finds (eqb b 61)
      (λ _. if_finds (eqb c 61) (λ _. any _ _ (λ l i. tt) refl) (λ _. if_finds (eqb c 126) (λ _. any _ _ (λ l i. tt) refl) (λ _. any _ _ (λ l i. tt) refl))) (λ _.
      if_finds (eqb b 58)
      (λ _. if_finds (eqb c 61) (λ _. any _ _ (λ l i. tt) refl) (λ _. if_finds (eqb c 58) (λ _. any _ _ (λ l i. tt) refl) (λ _. any _ _ (λ l i. tt) refl))) (λ _.
      if_finds (eqb b 36) (λ _. any _ _ (λ l i. tt) refl) (λ _.
      if_finds (eqb b 42) (λ _. any _ _ (λ l i. tt) refl) (λ _.
      if_finds (eqb b 44) (λ _. any _ _ (λ l i. tt) refl) (λ _.
      if_finds (eqb b 47) (λ _. any _ _ (λ l i. tt) refl) (λ _.
      if_finds (eqb b 63) (λ _. any _ _ (λ l i. tt) refl) (λ _.
      if_finds (eqb b 64) (λ _. any _ _ (λ l i. tt) refl) (λ _. refused))))))))))))

  opening_finds : (b : ℕ) → Finds outside m rest (opening b rest)
  opening_finds b =
      if_finds (eqb b 40) (λ _. any _ _ (λ l i. tt) refl) (λ _.
      if_finds (eqb b 91) (λ _. any _ _ (λ l i. tt) refl) (λ _.
      if_finds (eqb b 123) (λ _. any _ _ (λ l i. tt) refl) (λ _. refused)))

  -- a literal or a part of one, of which the first bytes are known
  part_finds : (k : StringKind) (format : Bool) (opener : ℕ) (more whole : TokenKind) → plain more ≡ true → plain whole ≡ true
      → ((format && is_interpolation_start (drop (raw_len (raw_texts.Literal k format) (drop opener rest)) (drop opener rest))) ≡ true
      → (l following : List ℕ) → rest ≡ l ++ following → opener + raw_len (raw_texts.Literal k format) (drop opener rest) + 2 ≡ length l → Fact m more l following)
      → (eqb (raw_len (raw_texts.Literal k format) (drop opener rest)) (length (drop opener rest)) ≡ false
      → (format && is_interpolation_start (drop (raw_len (raw_texts.Literal k format) (drop opener rest)) (drop opener rest))) ≡ false
      → (l following : List ℕ) → rest ≡ l ++ following → opener + raw_len (raw_texts.Literal k format) (drop opener rest) + delimiter_len k ≡ length l → Fact m whole l following)
      → Finds outside m rest (literal_part k format opener more whole rest)
  unfolding literal_part
  part_finds k format opener more whole p q f g =
      if_finds (eqb (raw_len (raw_texts.Literal k format) (drop opener rest)) (length (drop opener rest))) (λ _. refused) (λ unfinished.
      if_finds (format && is_interpolation_start (drop (raw_len (raw_texts.Literal k format) (drop opener rest)) (drop opener rest))) (λ start. record { fact = f start; plain = λ _. p }) (λ no_start. record { fact = g unfinished no_start; plain = λ _. q }))

  -- the start of a format string
  start_fact : (k : StringKind) (format : Bool) → kind_of rest ≡ k → is_delimiter k rest ≡ true → is_backtick k.delimiter ≡ false → format ≡ true → is_interpolation_start (drop (raw_len (raw_texts.Literal k format) (drop (delimiter_len k) rest)) (drop (delimiter_len k) rest)) ≡ true
      → (l following : List ℕ) → rest ≡ l ++ following → delimiter_len k + raw_len (raw_texts.Literal k format) (drop (delimiter_len k) rest) + 2 ≡ length l → IsFormatStart l
  start_fact k format is_kind opened quoted formats start l following split len =
      let after_front : List ℕ = drop (delimiter_len k) rest in
      let braces : is_interpolation_start (drop (raw_len (raw_texts.Literal k true) after_front) after_front) ≡ true = sym (ap (λ b. is_interpolation_start (drop (raw_len (raw_texts.Literal k b) after_front) after_front)) formats) ∙ start in
      let len' : delimiter_len k + raw_len (raw_texts.Literal k true) after_front + 2 ≡ length l = sym (ap (λ b. delimiter_len k + raw_len (raw_texts.Literal k b) after_front + 2) formats) ∙ len in
      let part = part_cut k false (delimiter_of k) after_front _ (braces_front _ braces) l following (sym (delimiter_front k rest opened) ∙ split)
      (ap (λ n. n + raw_len (raw_texts.Literal k true) after_front + 2) (sym (delimiter_length k)) ∙ len') in
      let same : kind_of l ≡ k = ap kind_of (sym (append-nil l)) ∙ start_opens k l [] following part ∙ ap kind_of (sym split) ∙ is_kind in
      record {
        part = subst (λ k. IsPart k (delimiter_of k) false l) (sym same) part;
        quoted = ap (λ k. is_backtick k.delimiter) same ∙ quoted;
        opens = λ more. start_opens k l more [] part ∙ ap kind_of (append-nil l);
      }

  literal_plain : (d : StringDelimiter) → plain (token_kind_of d) ≡ true
  literal_plain delimiters.Backtick = refl
  literal_plain _ = refl

  literal_finds : class_of (get_or rest 0 0) ≡ classes.Quote → Finds outside m rest (literal_token m rest)
  unfolding after within
  literal_finds e =
      let k = kind_of rest in
      let format : Bool = m.after_f && not (is_backtick k.delimiter) in
      part_finds k format (delimiter_len k) kinds.FormatStringStart (token_kind_of k.delimiter) refl (literal_plain k.delimiter)
      (λ start l following split len.
      let parts = and_parts format _ start in
      start_fact k format refl (delimiter_there rest e) (not-true (is_backtick k.delimiter) (and_parts m.after_f _ parts.0).1) parts.0 parts.1 l following split len)
      (λ unfinished no_start l following split len. whole k.delimiter k.indented l following (literal_fact k format rest refl (delimiter_there rest e) unfinished no_start l following split len))
    where
      whole : (d : StringDelimiter) (i : Bool) (l following : List ℕ) → IsDelimitedBy (record { delimiter = d; indented = i }) (m.after_f && not (is_backtick d)) l → Fact m (token_kind_of d) l following
      whole delimiters.Backtick i l following f = f.delimited
      whole _ i l following f = (f.delimited, λ g. record { string = f.delimited; ends = f.whole (ap (λ b. b && true) g) })

  close_finds : (o : Option OpenDelimiter) (d : Delimiter) (k : TokenKind) → ((l following : List ℕ) → Fact m k l following) → plain k ≡ true
      → Finds outside m rest (closing_delimiter o d k)
  close_finds None d k f p = refused
  close_finds (Some o) d k f p = if_finds (is_same o.delimiter d) (λ _. any k 1 f p) (λ _. refused)

  -- a later part of the format string that is open
  later_fact : (k : StringKind) → is_interpolation_end rest ≡ true → is_interpolation_start (drop (raw_len (raw_texts.Literal k true) (drop 2 rest)) (drop 2 rest)) ≡ true
      → (l following : List ℕ) → rest ≡ l ++ following → 2 + raw_len (raw_texts.Literal k true) (drop 2 rest) + 2 ≡ length l → IsPartOf k false l
  later_fact k closed start l following split len =
      part_cut k false (125 ∷ 125 ∷ []) (drop 2 rest) _ (braces_front _ start) l following (sym (closers_front rest closed) ∙ split) len

  last_fact : (k : StringKind) → is_interpolation_end rest ≡ true → eqb (raw_len (raw_texts.Literal k true) (drop 2 rest)) (length (drop 2 rest)) ≡ false → is_interpolation_start (drop (raw_len (raw_texts.Literal k true) (drop 2 rest)) (drop 2 rest)) ≡ false
      → (l following : List ℕ) → rest ≡ l ++ following → 2 + raw_len (raw_texts.Literal k true) (drop 2 rest) + delimiter_len k ≡ length l → IsPartOf k true l
  last_fact k closed unfinished no_start l following split len =
      let after_front : List ℕ = drop 2 rest in
      let n : ℕ = raw_len (raw_texts.Literal k true) after_front in
      let fits = raw_within (raw_texts.Literal k true) after_front in
      let inside : n < length after_front = grind (arith, nat_tests) in
      let stop = or_left (is_delimiter k (drop n after_front)) (is_interpolation_start (drop n after_front)) (raw_stops (raw_texts.Literal k true) after_front inside) no_start in
      part_cut k true (125 ∷ 125 ∷ []) after_front _ (delimiter_front k (drop n after_front) stop) l following (sym (closers_front rest closed) ∙ split)
      (ap (λ d. 2 + n + d) (sym (delimiter_length k)) ∙ len)

  brace_finds : (f : Option StringKind) (o : Option OpenDelimiter) → f ≡ format_kind (head_of m.openers) → Finds outside m rest (brace_by f o rest)
  brace_finds None o same = close_finds o Brace kinds.BraceR (λ l i. tt) refl
  brace_finds (Some k) o same =
      if_finds (is_interpolation_end rest)
      (λ closed. part_finds k true 2 kinds.FormatStringContinue kinds.FormatStringEnd refl refl
      (λ start l following split len. subst (λ f. IsPartOfOpen f false l) same (later_fact k closed start l following split len))
      (λ unfinished no_start l following split len. subst (λ f. IsPartOfOpen f true l) same (last_fact k closed unfinished no_start l following split len)))
      (λ _. close_finds o Brace kinds.BraceR (λ l i. tt) refl)

  closing_finds : (b : ℕ) → Finds outside m rest (closing (head_of m.openers) b rest)
  closing_finds b =
      if_finds (eqb b 41) (λ _. close_finds (head_of m.openers) Paren kinds.ParenR (λ l i. tt) refl) (λ _.
      if_finds (eqb b 93) (λ _. close_finds (head_of m.openers) Bracket kinds.BracketR (λ l i. tt) refl) (λ _.
      if_finds (eqb b 125) (λ _. brace_finds _ (head_of m.openers) refl) (λ _. refused)))

  line_end_finds : (n : ℕ) → Finds outside m rest (line_end_token m n)
  line_end_finds n = if_finds (nested m) (λ _. any kinds.Whitespace n (λ l i. tt) refl) (λ _. any kinds.Eol n (λ l i. tt) refl)

  escape_finds : Finds outside m rest (escaped_line_end rest)
  escape_finds =
      if_finds (eqb (get_or rest 1 0) 10) (λ _. any _ _ (λ l i. tt) refl) (λ _.
      if_finds (eqb (get_or rest 1 0) 13) (λ _. if_finds (eqb (get_or rest 2 0) 10) (λ _. any _ _ (λ l i. tt) refl) (λ _. refused)) (λ _.
      if_finds (eqb (length (drop 1 rest)) 0) (λ _. refused) (λ _. refused)))

  comment_finds : eqb (get_or rest 0 0) 35 ≡ true → Finds outside m rest (Ok (kinds.Comment, raw_len raw_texts.Comment rest))
  comment_finds h = record { fact = λ l following e len. comment_fact l following (subst (λ r. eqb (get_or r 0 0) 35 ≡ true) e h) (subst (λ r. raw_len raw_texts.Comment r ≡ length l) e len); plain = λ _. refl }

  inline_finds : (k : ByteClass) → class_of (get_or rest 0 0) ≡ k → Finds outside m rest (token_by_class m k rest)
  unfolding token_by_class
  inline_finds classes.Blank e = any _ _ (λ l i. tt) refl
  inline_finds classes.LineFeed e = line_end_finds 1
  inline_finds classes.CarriageReturn e = if_finds (eqb (get_or rest 1 0) 10) (λ _. line_end_finds 2) (λ _. refused)
  inline_finds classes.IdentifierStart e =
      record { fact = λ l following is len. name_fact l following (subst (λ r. class_of (get_or r 0 0) ≡ classes.IdentifierStart) is e) (subst (λ r. word_len r ≡ length l) is len); plain = λ _. refl }
  inline_finds classes.IdentifierContinue e = refused
  inline_finds classes.Quote e = literal_finds e
  inline_finds classes.Opener e = opening_finds (get_or rest 0 0)
  inline_finds classes.Closer e = closing_finds (get_or rest 0 0)
  inline_finds classes.Fixed e = fixed_finds (get_or rest 0 0)
  inline_finds classes.Lead e = if_finds (eqb (first_char rest) 65279) (λ _. any _ _ (λ l i. tt) refl) (λ _. refused)
  inline_finds classes.Other e =
      if_finds (eqb (get_or rest 0 0) 35) comment_finds (λ _.
      if_finds (eqb (get_or rest 0 0) 92) (λ _. escape_finds) (λ _. refused))

  normal_finds : Finds outside m rest (token_outside_text m rest)
  normal_finds = inline_finds _ refl

  body_finds : outside ≡ false → Finds outside m rest (body_token rest)
  unfolding body_token
  body_finds inside = by (raw_len raw_texts.Body rest)
    where
      by : (n : ℕ) → Finds outside m rest (text_or n (get_or rest 0 0))
      by zero =
          if_finds (eqb (get_or rest 0 0) 10) (λ _. other inside _ _ (λ l i. tt))
          (λ _. if_finds (eqb (get_or rest 0 0) 13) (λ _. other inside _ _ (λ l i. tt)) (λ _. other inside _ _ (λ l i. tt)))
      by (suc n) = other inside _ _ (λ l i. tt)

  inside_finds : outside ≡ false → Finds outside m rest (token_within_line m rest)
  unfolding token_within_line
  inside_finds inside = by _
    where
      by : (p : Region) → Finds outside m rest (token_in_region p m rest)
      by InText = body_finds inside
      by InInterpolation = if_finds (is_empty m.openers && is_interpolation_end rest) (λ _. other inside _ _ (λ l i. tt)) (λ _. normal_finds)
      by OutsideText = normal_finds

  blanks_finds : outside ≡ false → (n : ℕ) → Finds outside m rest (blanks_or n m rest)
  blanks_finds inside zero = inside_finds inside
  blanks_finds inside (suc n) = other inside _ _ (λ l i. tt)

  layout_finds : outside ≡ false → (found following : List ℕ) → Finds outside m rest (layout m found following rest)
  unfolding layout
  layout_finds inside found following =
      if_finds (nested m) (λ _. blanks_finds inside _) (λ _.
      if_finds (begins_blank_line following)
      (λ _. if_finds (not (is_empty m.levels) && closes_levels false rest) (λ _. other inside _ _ (λ l i. tt)) (λ _. blanks_finds inside _)) (λ _.
      if_finds (bytes_eq found (innermost m)) (λ _. blanks_finds inside _) (λ _.
      if_finds (is_level m.levels found) (λ _. other inside _ _ (λ l i. tt)) (λ _.
      if_finds (m.in_body && starts_with nat_eq found (innermost m)) (λ _. blanks_finds inside _) (λ _.
      if_finds (is_mixed (tested_blanks m found)) (λ _. refused) (λ _.
      if_finds (not (starts_with nat_eq found (innermost m))) (λ _. refused) (λ _. other inside _ _ (λ l i. tt))))))))

  next_by_finds : outside ≡ false → (b : Bool) → Finds outside m rest (next_by b m rest)
  next_by_finds inside true = layout_finds inside _ _
  next_by_finds inside false = inside_finds inside

at_end_finds : (m : Mode) (o : Option Tok) (ls : List (List ℕ)) → Finds false m [] (at_end_by o ls)
at_end_finds m (Some t) ls = record { fact = tt; plain = λ _. tt }
at_end_finds m None [] = record { fact = λ l following e len. tt; plain = λ e. cc }
at_end_finds m None (l ∷ ls) = record { fact = λ l following e len. tt; plain = λ e. cc }

next_finds : (m : Mode) (rest : List ℕ) → Finds false m rest (next m rest)
unfolding next
next_finds m [] = at_end_finds m m.interpolation m.levels
next_finds m (b ∷ bs) = next_by_finds false m (b ∷ bs) refl m.line_start

-- outside the text of bodies a plain token is found
pub outside_plain : (m : Mode) (rest : List ℕ) → Plain (token_outside_text m rest)
outside_plain m rest = record { by = (normal_finds true m rest).plain refl }

-- the next token's lexeme has its fact
pub fact_of : (m : Mode) (k : TokenKind) (l following : List ℕ) → next m (l ++ following) ≡ Ok (k, length l) → Fact m k l following
fact_of m k l following e = (subst (Finds false m (l ++ following)) e (next_finds m (l ++ following))).fact l following refl refl

-- a string is found again where no `f` comes before it and no quote after it
pub string_again : (m n : Mode) (l following more : List ℕ) → is_quote (get_or l 0 0) ≡ true → literal_token m (l ++ following) ≡ Ok (kinds.StringToken, length l) → n.after_f ≡ false → is_quote (get_or more 0 0) ≡ false → literal_token n (l ++ more) ≡ Ok (kinds.StringToken, length l)
string_again m n [] following more quoted found no_f stop = cc
string_again m n (x ∷ xs) following more quoted found no_f stop =
    let l : List ℕ = x ∷ xs in
    let s : IsString l = ((subst (Finds false m (l ++ following)) found (literal_finds false m (l ++ following) (quote_is x quoted))).fact l following refl refl).0 in
    literal_again n s.kind l more no_f s.literal stop ∙ ap (λ k. Ok (k, length l)) s.is_token
