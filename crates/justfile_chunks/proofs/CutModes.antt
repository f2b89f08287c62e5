-- The modes in which a line or a body ends: nothing is open.
use Rattle.std.proofs.Common.{◌≡◌, ◌⊎◌, ◌∙◌, ℕ, zero, suc, ◌<◌, ◌≤◌, Bool, true, false, cond, eqb, not, ◌&&◌, ◌||◌, List, [], ◌∷◌, length, map, drop, get_or, Option, Some, None, is_some, take, arith, length-take, Ok, Err, refl, sym, ap, subst, nat_eq, inl, inr, ⊎_elim}
use Rattle.std.specs.List.{starts_with}
use Rattle.std.specs.Str.{bytes_eq}
use Rattle.std.proofs.lemmas.Slice.Eq.{bytes_eq-Decides}
use Rattle.std.proofs.lemmas.Bool.{false_from_ne_true, not-false}
use Rattle.std.proofs.Math.Bool.{and-true}
use Rattle.justfile_vocabulary.specs.declared.byte_class.ByteClass.{ByteClass}
use Rattle.justfile_vocabulary.specs.declared.byte_class.ByteClass.TheVariants as classes
use Rattle.justfile_vocabulary.specs.declared.token_kind.TokenKind.{TokenKind}
use Rattle.justfile_vocabulary.specs.declared.token_kind.TokenKind.TheVariants as kinds
use Rattle.justfile_vocabulary.specs.ByteClass.{class_of}
use Rattle.justfile_token.specs.declared.delimiter.Delimiter.{Delimiter}
use Rattle.justfile_token.specs.declared.delimiter.Delimiter.TheVariants.{Brace, Bracket, Paren}
use Rattle.justfile_token.specs.declared.string_kind.StringDelimiter.{StringDelimiter}
use Rattle.justfile_token.specs.declared.string_kind.StringDelimiter.TheVariants as delimiters
use Rattle.justfile_token.specs.declared.string_kind.StringKind.{StringKind}
use Rattle.justfile_token.specs.StringKind.{kind_of, token_kind_of}
use Rattle.justfile_model.specs.declared.open_delimiter.OpenDelimiter.{OpenDelimiter}
use Rattle.justfile_model.specs.declared.raw_text.RawText.TheVariants as raw_texts
use Rattle.justfile_model.specs.Lexing.Bytes.{blank_len, closes_levels, first_char, is_interpolation_end, is_interpolation_start, is_mixed}
use Rattle.justfile_model.specs.Lexing.LexicalFault.{LexicalError}
use Rattle.justfile_model.specs.Lexing.LiteralText.{raw_len}
use Rattle.justfile_model.specs.Lexing.Modes.{Mode, innermost, is_empty, mode_after, nested, start_mode}
use Rattle.justfile_model.specs.Lexing.Next.{NextToken, Region, InText, InInterpolation, OutsideText, begins_blank_line, blanks_or, body_token, brace_by, closing_delimiter, doubled_token, fixed_token, is_level, is_same, layout, line_end_token, literal_part, literal_token, next, next_by, region_by, tested_blanks, text_or, token_by_class, token_in_region, token_within_line}
use Rattle.justfile_model.specs.Lexing.Tok.{Tok}
use Rattle.justfile_round_trip.proofs.RecipeBodies.BodyTokens.{InBody}
use Rattle.justfile_chunks.specs.Chunks.{ends_line}
use Rattle.justfile_chunks.proofs.SameNext.{SameMode}

-- a line ends outside of the text of a body only if nothing is nested, and neither a dedent nor an indent comes within a line
abbrev EndFact : Mode → TokenKind → Type 0
EndFact m kinds.Eol = nested m ≡ false
EndFact m kinds.Dedent = ⊥
EndFact m kinds.Indent = ⊥
EndFact m _ = Unit {0}

-- tokens within a line, other than comments and whitespace
abbrev pub IsInside : TokenKind → Type 0
IsInside kinds.Comment = ⊥
IsInside kinds.Dedent = ⊥
IsInside kinds.Eof = ⊥
IsInside kinds.Eol = ⊥
IsInside kinds.Indent = ⊥
IsInside kinds.Whitespace = ⊥
IsInside _ = Unit {0}

inside_fact : (k : TokenKind) (m : Mode) → IsInside k → EndFact m k
inside_fact kinds.Eol m h = absurd h
inside_fact kinds.Dedent m h = absurd h
inside_fact kinds.Indent m h = absurd h
inside_fact _ m h = tt

abbrev pub InsideBy : NextToken → Type 0
InsideBy (Ok x) = IsInside x.0
InsideBy (Err r) = Unit {0}

pub record Inside (found : NextToken) : Type 0 where
  pub inside : InsideBy found

-- a byte of this class begins such a token, or none
abbrev pub BeginsInside : ByteClass → Type 0
BeginsInside classes.Blank = ⊥
BeginsInside classes.LineFeed = ⊥
BeginsInside classes.CarriageReturn = ⊥
BeginsInside classes.Other = ⊥
BeginsInside _ = Unit {0}

module _ (m : Mode) (rest : List ℕ) where
  one : {k : TokenKind} {n : ℕ} → IsInside k → Inside (Ok (k, n))
  one h = record { inside = h }

  none : {r : LexicalError} → Inside (Err r)
  none = record { inside = tt }

  choice : (b : Bool) {x y : NextToken} → Inside x → Inside y → Inside (cond b x y)
  choice true p q = p
  choice false p q = q

  twice_inside : (b : ℕ) (k : TokenKind) → IsInside k → Inside (doubled_token b k rest)
  twice_inside b k h = choice (eqb (get_or rest 1 0) b) (one h) (choice (eqb (length (drop 1 rest)) 0) none none)

  fixed_inside : (b : ℕ) → Inside (fixed_token b rest)
  unfolding fixed_token
  fixed_inside b =
      let c = get_or rest 1 0 in
      choice (eqb b 33) (choice (eqb c 61) (one tt) (choice (eqb c 126) (one tt) (one tt)))
      (choice (eqb b 38) (twice_inside 38 kinds.AmpersandAmpersand tt)
      (choice (eqb b 124) (twice_inside 124 kinds.BarBar tt)
      (choice (eqb b 43) (choice (eqb c 43) (one tt) (one tt))
      (choice (eqb b 61) (choice (eqb c 61) (one tt) (choice (eqb c 126) (one tt) (one tt)))
      (choice (eqb b 58) (choice (eqb c 61) (one tt) (choice (eqb c 58) (one tt) (one tt)))
      (choice (eqb b 36) (one tt)
      (choice (eqb b 42) (one tt)
      (choice (eqb b 44) (one tt)
      (choice (eqb b 47) (one tt)
      (choice (eqb b 63) (one tt)
      (choice (eqb b 64) (one tt) none)))))))))))

  part_inside : (k : StringKind) (format : Bool) (opener : ℕ) (more whole : TokenKind) → IsInside more → IsInside whole
      → Inside (literal_part k format opener more whole rest)
  unfolding literal_part
  part_inside k format opener more whole e f =
      choice (eqb (raw_len (raw_texts.Literal k format) (drop opener rest)) (length (drop opener rest))) none
      (choice (format && is_interpolation_start (drop (raw_len (raw_texts.Literal k format) (drop opener rest)) (drop opener rest))) (one e) (one f))

  literal_inside : Inside (literal_token m rest)
  literal_inside = part_inside _ _ _ kinds.FormatStringStart _ tt (whole (kind_of rest).delimiter)
    where
      whole : (d : StringDelimiter) → IsInside (token_kind_of d)
      whole delimiters.Backtick = tt
      whole _ = tt

  close_inside : (o : Option OpenDelimiter) (d : Delimiter) (k : TokenKind) → IsInside k → Inside (closing_delimiter o d k)
  close_inside None d k h = none
  close_inside (Some o) d k h = choice (is_same o.delimiter d) (one h) none

  brace_inside : (f : Option StringKind) (o : Option OpenDelimiter) → Inside (brace_by f o rest)
  brace_inside None o = close_inside o Brace kinds.BraceR tt
  brace_inside (Some k) o = choice (is_interpolation_end rest) (part_inside k true 2 kinds.FormatStringContinue kinds.FormatStringEnd tt tt)
      (close_inside o Brace kinds.BraceR tt)

  pub class_inside : (k : ByteClass) → BeginsInside k → Inside (token_by_class m k rest)
  unfolding token_by_class
  class_inside classes.IdentifierStart h = one tt
  class_inside classes.IdentifierContinue h = none
  class_inside classes.Quote h = literal_inside
  class_inside classes.Opener h =
      choice (eqb (get_or rest 0 0) 40) (one tt)
      (choice (eqb (get_or rest 0 0) 91) (one tt)
      (choice (eqb (get_or rest 0 0) 123) (one tt) none))
  class_inside classes.Closer h =
      choice (eqb (get_or rest 0 0) 41) (close_inside _ Paren kinds.ParenR tt)
      (choice (eqb (get_or rest 0 0) 93) (close_inside _ Bracket kinds.BracketR tt)
      (choice (eqb (get_or rest 0 0) 125) (brace_inside _ _) none))
  class_inside classes.Fixed h = fixed_inside (get_or rest 0 0)
  class_inside classes.Lead h = choice (eqb (first_char rest) 65279) (one tt) none
  class_inside _ h = absurd h

abbrev EndsBy : Mode → NextToken → Type 0
EndsBy m (Ok x) = EndFact m x.0
EndsBy m (Err r) = Unit {0}

record Ends (m : Mode) (found : NextToken) : Type 0 where
  fact : EndsBy m found

inside_ends : (m : Mode) (x : NextToken) → Inside x → Ends m x
inside_ends m (Ok x) h = record { fact = inside_fact x.0 m h.inside }
inside_ends m (Err r) h = record { fact = tt }

module _ (m : Mode) (rest : List ℕ) where
  is : {k : TokenKind} {n : ℕ} → EndFact m k → Ends m (Ok (k, n))
  is f = record { fact = f }

  refused : {r : LexicalError} → Ends m (Err r)
  refused = record { fact = tt }

  either : (b : Bool) {x y : NextToken} → Ends m x → Ends m y → Ends m (cond b x y)
  either true p q = p
  either false p q = q

  line_ends : (n : ℕ) → Ends m (line_end_token m n)
  line_ends n = by (nested m) refl
    where
      by : (b : Bool) → nested m ≡ b → Ends m (cond b (Ok (kinds.Whitespace, n)) (Ok (kinds.Eol, n)))
      by true e = is tt
      by false e = is e

  inline_plain : (k : ByteClass) → Ends m (token_by_class m k rest)
  unfolding token_by_class
  inline_plain classes.Blank = is tt
  inline_plain classes.LineFeed = line_ends _
  inline_plain classes.CarriageReturn = either (eqb (get_or rest 1 0) 10) (line_ends _) refused
  inline_plain classes.Other =
      either (eqb (get_or rest 0 0) 35) (is tt)
      (either (eqb (get_or rest 0 0) 92)
      (either (eqb (get_or rest 1 0) 10) (is tt)
      (either (eqb (get_or rest 1 0) 13) (either (eqb (get_or rest 2 0) 10) (is tt) refused)
      (either (eqb (length (drop 1 rest)) 0) refused refused)))
      refused)
  inline_plain k = inside_ends m _ (class_inside m rest k tt)

abbrev NotDedent : TokenKind → Type 0
NotDedent kinds.Dedent = ⊥
NotDedent _ = Unit {0}

abbrev NoDedent : NextToken → Type 0
NoDedent (Ok x) = NotDedent x.0
NoDedent (Err r) = Unit {0}

text_fact : (l b : ℕ) → NoDedent (text_or l b)
text_fact zero b = lines (eqb b 10) (eqb b 13)
  where
    lines : (s t : Bool) → NoDedent (cond {A = NextToken} s (Ok (kinds.Eol, 1)) (cond t (Ok (kinds.Eol, 2)) (Ok (kinds.InterpolationStart, 2))))
    lines false true = tt
    lines _ _ = tt
text_fact (suc l) b = tt

-- within a line no dedent comes
pub no_dedent_within : (m : Mode) (rest : List ℕ) (n : ℕ) → token_within_line m rest ≡ Ok (kinds.Dedent, n) → ⊥
unfolding token_within_line body_token
no_dedent_within m rest n e = by (region_by m.in_body m.interpolation) e
  where
    ended : {found : NextToken} → Ends m found → found ≡ Ok (kinds.Dedent, n) → ⊥
    ended h e = subst (EndsBy m) e h.fact

    by : (r : Region) → token_in_region r m rest ≡ Ok (kinds.Dedent, n) → ⊥
    by InText e = subst NoDedent e (text_fact (raw_len raw_texts.Body rest) (get_or rest 0 0))
    by InInterpolation e =
        ended (either m rest (is_empty m.openers && is_interpolation_end rest) (is m rest tt) (inline_plain m rest (class_of (get_or rest 0 0)))) e
    by OutsideText e = ended (inline_plain m rest (class_of (get_or rest 0 0))) e

-- ---- the next token

pub or_none : (os : List OpenDelimiter) (o : Option Tok) → (not (is_empty os) || is_some o) ≡ false → (os ≡ []) × (o ≡ None)
or_none [] None h = (refl, refl)
or_none _ _ h = cc

-- In a body, where nothing is nested, whitespace is the blanks at the start of a line, and no indent comes.
abbrev pub NextFact : Mode → List ℕ → TokenKind → ℕ → Type 0
NextFact m rest kinds.Eol n = (nested m ≡ false) ⊎ InBody m
NextFact m rest kinds.Dedent n = (nested m ≡ false) × (m.line_start ≡ true)
NextFact m rest kinds.Indent n = m.in_body ≡ false
NextFact m rest kinds.Whitespace n = m.in_body ≡ true → nested m ≡ false → (0 < n) × (n ≤ blank_len rest)
NextFact m rest _ n = Unit {0}

abbrev NextBy : Mode → List ℕ → NextToken → Type 0
NextBy m rest (Ok x) = NextFact m rest x.0 x.1
NextBy m rest (Err r) = Unit {0}

record NextEnds (m : Mode) (rest : List ℕ) (found : NextToken) : Type 0 where
  fact : NextBy m rest found

weaker : (m : Mode) (rest : List ℕ) (k : TokenKind) (n : ℕ) → (m.in_body ≡ true → nested m ≡ false → ⊥) → EndFact m k → NextFact m rest k n
weaker m rest kinds.Eol n out h = inl h
weaker m rest kinds.Dedent n out h = absurd h
weaker m rest kinds.Indent n out h = absurd h
weaker m rest kinds.Whitespace n out h = λ b c. absurd (out b c)
weaker m rest _ n out h = tt

from_ends : (m : Mode) (rest : List ℕ) (x : NextToken) → (m.in_body ≡ true → nested m ≡ false → ⊥) → Ends m x → NextEnds m rest x
from_ends m rest (Ok x) out h = record { fact = weaker m rest x.0 x.1 out h.fact }
from_ends m rest (Err r) out h = record { fact = tt }

-- in the text of a body
in_text : (m : Mode) (rest : List ℕ) (n b : ℕ) → InBody m → NextEnds m rest (text_or n b)
in_text m rest zero b h = by (eqb b 10) (eqb b 13)
  where
    by : (s t : Bool) → NextEnds m rest (cond s (Ok (kinds.Eol, 1)) (cond t (Ok (kinds.Eol, 2)) (Ok (kinds.InterpolationStart, 2))))
    by true t = record { fact = inr h }
    by false true = record { fact = inr h }
    by false false = record { fact = tt }
in_text m rest (suc n) b h = record { fact = tt }

not_interpolated : (b : Bool) → region_by b None ≡ InInterpolation → ⊥
not_interpolated true e = cc
not_interpolated false e = cc

not_outside : (b : Bool) (o : Option Tok) → region_by b o ≡ OutsideText → b ≡ true → ⊥
not_outside true None e h = cc
not_outside _ _ e h = cc

module _ (m : Mode) (rest : List ℕ) where
  of_region : (r : Region) → region_by m.in_body m.interpolation ≡ r → NextEnds m rest (token_in_region r m rest)
  unfolding body_token
  of_region InText e = in_text m rest (raw_len raw_texts.Body rest) (get_or rest 0 0) e
  of_region InInterpolation e =
      from_ends m rest _ (λ b c. not_interpolated m.in_body (subst (λ o. region_by m.in_body o ≡ InInterpolation) (or_none m.openers m.interpolation c).1 e))
      (either m rest (is_empty m.openers && is_interpolation_end rest) (is m rest tt) (inline_plain m rest (class_of (get_or rest 0 0))))
  of_region OutsideText e = from_ends m rest _ (λ b c. not_outside m.in_body m.interpolation e b) (inline_plain m rest (class_of (get_or rest 0 0)))

  within : NextEnds m rest (token_within_line m rest)
  unfolding token_within_line
  within = of_region (region_by m.in_body m.interpolation) refl

  blanks : (n : ℕ) → n ≤ blank_len rest → NextEnds m rest (blanks_or n m rest)
  blanks zero h = within
  blanks (suc n) h = record { fact = λ b c. (omega arith, h) }

  split : (b : Bool) {x y : NextToken} → (b ≡ true → NextEnds m rest x) → (b ≡ false → NextEnds m rest y) → NextEnds m rest (cond b x y)
  split true p q = p refl
  split false p q = q refl

  begins_within : (a : Bool) (text front : List ℕ) → (a && starts_with nat_eq text front) ≡ true → length front ≤ length text
  begins_within true text front h = omega (arith, ap length ((bytes_eq-Decides front (take (length front) text)).0 h), length-take (length front) text)
  begins_within false text front h = cc

  no_body : (a s : Bool) → (a && s) ≡ false → not s ≡ false → a ≡ false
  no_body a s h g = sym (and-true a) ∙ ap (λ t. a && t) (sym (not-false s g)) ∙ h

  laid_out : (on following : List ℕ) → length on ≤ blank_len rest → m.line_start ≡ true → NextEnds m rest (layout m on following rest)
  unfolding layout
  laid_out on following len start =
      split (nested m) (λ _. blanks (length on) len) (λ e.
      let close : NextEnds m rest (Ok (kinds.Dedent, 0)) = record { fact = (e, start) } in
      split (begins_blank_line following) (λ _. split (not (is_empty m.levels) && closes_levels false rest) (λ _. close) (λ _. blanks (length on) len)) (λ _.
      split (bytes_eq on (innermost m)) (λ _. blanks (length on) len) (λ _.
      split (is_level m.levels on) (λ _. close) (λ _.
      split (m.in_body && starts_with nat_eq on (innermost m)) (λ h. blanks (length (innermost m))
      (omega (arith, len, begins_within m.in_body on (innermost m) h))) (λ other.
      split (is_mixed (tested_blanks m on)) (λ _. record { fact = tt }) (λ _.
      split (not (starts_with nat_eq on (innermost m))) (λ _. record { fact = tt }) (λ h.
      record { fact = no_body m.in_body (starts_with nat_eq on (innermost m)) other h })))))))

  by_start : (b : Bool) → m.line_start ≡ b → NextEnds m rest (next_by b m rest)
  by_start true e = laid_out _ _ (omega (arith, length-take (blank_len rest) rest)) e
  by_start false e = within

next_ends : (m : Mode) (b : ℕ) (bs : List ℕ) → NextEnds m (b ∷ bs) (next m (b ∷ bs))
unfolding next
next_ends m b bs = by_start m (b ∷ bs) m.line_start refl

pub next_fact : (m : Mode) (rest : List ℕ) (k : TokenKind) (n : ℕ) → 0 < length rest → next m rest ≡ Ok (k, n) → NextFact m rest k n
next_fact m [] k n l e = absurd (omega arith)
next_fact m (b ∷ bs) k n l e = subst (NextBy m (b ∷ bs)) e (next_ends m b bs).fact

-- ---- the mode after it

-- a level is open in a body
abbrev pub BodyHasLevel : Mode → Type 0
BodyHasLevel m = m.in_body ≡ true → is_empty m.levels ≡ false

pub level_after : (k : TokenKind) (t : Tok) (m : Mode) → BodyHasLevel m → BodyHasLevel (mode_after k t m)
level_after kinds.Indent t m h = λ e. refl
level_after kinds.Dedent t m h = λ e. cc
level_after _ t m h = h

not_in_body : (m : Mode) → BodyHasLevel m → m.levels ≡ [] → m.in_body ≡ false
not_in_body m c e = false_from_ne_true m.in_body (λ h. let bad : false ≡ true = sym (c h) ∙ ap is_empty e in cc)

no_text : (b : Bool) (o : Option Tok) → b ≡ false → region_by b o ≡ InText → ⊥
no_text false None e h = cc
no_text _ _ e h = cc

-- After a line or a body that ends before the end of the text, with no level open, the mode is that of the start of a text, up to a colon.
pub mode_at_cut : (m : Mode) (k : TokenKind) (n : ℕ) (t : Tok) (b : ℕ) (bs : List ℕ) → BodyHasLevel m → next m (b ∷ bs) ≡ Ok (k, n) → ends_line k ≡ true
    → (mode_after k t m).levels ≡ [] → SameMode (mode_after k t m) start_mode
mode_at_cut m k n t b bs clear e ends none = go k ends none (next_fact m (b ∷ bs) k n (omega arith) e)
  where
    go : (k : TokenKind) → ends_line k ≡ true → (mode_after k t m).levels ≡ [] → NextFact m (b ∷ bs) k n → SameMode (mode_after k t m) start_mode
    go kinds.Eol h none f =
        let out = not_in_body m clear none in
        let free = ⊎_elim (λ e. e) (λ inner. absurd (no_text m.in_body m.interpolation out inner)) f in
        let x = or_none m.openers m.interpolation free in
        assumption (ap (λ os. map (λ (o : OpenDelimiter). o.delimiter) os) x.0, ap is_some x.1)
    go kinds.Dedent h none f =
        let x = or_none m.openers m.interpolation f.0 in
        assumption (ap (λ os. map (λ (o : OpenDelimiter). o.delimiter) os) x.0, ap is_some x.1, f)
    go _ h none f = cc
