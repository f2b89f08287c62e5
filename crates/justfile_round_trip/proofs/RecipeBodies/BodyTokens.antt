-- Properties of the next token in and around a body, in any text.
use Rattle.std.proofs.Common.{◌≡◌, ℕ, zero, suc, ◌<◌, ◌≤◌, Bool, true, false, cond, eqb, List, [], ◌∷◌, ◌⊎◌, inl, inr, length, get_or, take, drop, Option, Some, None, Ok, Err, refl, sym, ap, ◌∙◌, subst, ⊎_elim, arith, length-take}
use Rattle.std.specs.Prelude.{◌&&◌, ◌||◌, not, is_some, nat_eq}
use Rattle.std.specs.List.{starts_with}
use Rattle.std.specs.Str.{bytes_eq}
use Rattle.std.proofs.lemmas.Bool.{and_parts}
use Rattle.std.proofs.lemmas.Bool.Decides.{nat_tests}
use Rattle.std.proofs.lemmas.List.Sums.{prefix_len-le-length}
use Rattle.std.proofs.lemmas.Slice.Eq.{bytes_eq-Decides}
use Rattle.std.proofs.Math.Numerals.{one-add}
use Rattle.justfile_round_trip.proofs.Facts.{plain, Plain, outside_plain}
use Rattle.justfile_vocabulary.specs.declared.token_kind.TokenKind.{TokenKind}
use Rattle.justfile_vocabulary.specs.declared.token_kind.TokenKind.TheVariants as kinds
use Rattle.justfile_vocabulary.specs.ByteClass.{class_of}
use Rattle.justfile_model.specs.declared.open_delimiter.OpenDelimiter.{OpenDelimiter}
use Rattle.justfile_model.specs.declared.raw_text.RawText.TheVariants as raw_texts
use Rattle.justfile_model.specs.Lexing.Bytes.{blank, is_blank, blank_len, is_line_end, is_interpolation_end, is_mixed, closes_levels}
use Rattle.justfile_model.specs.Lexing.LiteralText.{ends, pieces_len}
use Rattle.justfile_model.specs.Lexing.Modes.{Mode, is_empty, innermost, nested}
use Rattle.justfile_model.specs.Lexing.Next.{NextToken, token_outside_text, text_or, body_token, at_end_by, Region, InText, InInterpolation, OutsideText, region_by, token_in_region, token_within_line, blanks_or, tested_blanks, is_level, layout, begins_blank_line, next_by, next}
use Rattle.justfile_model.specs.Lexing.Tok.{Tok}
use Rattle.justfile_round_trip.proofs.LiteralTexts.Inline.{head_is}
use Rattle.justfile_round_trip.proofs.RecipeBodies.Lines.{none_here}
use Rattle.justfile_round_trip.proofs.LiteralTexts.RawTexts.{scan, text_no_end}

-- ---- the place of a token in a body

-- the next token is in the text of a body, unless it is an indent, a dedent, or the blanks at the start of a line
abbrev pub InBody : Mode → Type 0
InBody m = region_by m.in_body m.interpolation ≡ InText

-- no delimiter is open in the text of a body, and a level is open in a body
abbrev pub Clear : Mode → Type 0
Clear m = (InBody m → m.openers ≡ []) × (m.in_body ≡ true → is_empty m.levels ≡ false)

-- after an Indent, at the start of a later line, or inside a line: by the last token that is not whitespace
pub data At : Type 0 where
  First : At
  Start : At
  Amid : At

-- the blanks at the front, and what follows them
abbrev pub front : List ℕ → List ℕ
front rest = take (blank_len rest) rest

abbrev pub past : List ℕ → List ℕ
past rest = drop (blank_len rest) rest

-- the line has more than blanks, or only its end is left and no level closes
abbrev pub LineSeen : List ℕ → Type 0
LineSeen rest = (begins_blank_line (past rest) ≡ false) ⊎ ((begins_blank_line rest ≡ true) × (closes_levels false rest ≡ false))

abbrev pub LineInfo : At → List ℕ → Type 0
LineInfo First rest = (head_is blank rest ≡ false) × (begins_blank_line rest ≡ false)
LineInfo Start rest = LineSeen rest
LineInfo Amid rest = Unit {0}

-- the condition before the next token
abbrev pub Ready : At → Mode → List ℕ → Type 0
Ready First m rest = InBody m → (m.line_start ≡ false) × LineInfo First rest
Ready Start m rest = InBody m → m.line_start ≡ false → LineSeen rest
Ready Amid m rest = Unit {0}

-- the condition on a text at this place
abbrev pub Seen : At → List ℕ → Type 0
Seen First rest = (head_is blank rest ≡ false) × (begins_blank_line rest ≡ false)
Seen Start rest = begins_blank_line (past rest) ≡ false
Seen Amid rest = Unit {0}

-- a line end where no other token of the line was: none is on the first line of a body, and on a later one no level closes
abbrev pub Empty : At → List ℕ → Type 0
Empty First rest = ⊥
Empty Start rest = closes_levels false rest ≡ false
Empty Amid rest = Unit {0}

-- not the first line
abbrev pub NotFirst : At → Type 0
NotFirst First = ⊥
NotFirst _ = Unit {0}

-- why a level closes in a body: the text ends, or the line is blank and levels close, or its blanks are those of another level
pub data Closing (m : Mode) (rest : List ℕ) : Type 0 where
  AtEnd : rest ≡ [] → Closing m rest
  AtBlankLine : m.line_start ≡ true → closes_levels false rest ≡ true → Closing m rest
  AtLevel : m.line_start ≡ true → begins_blank_line (past rest) ≡ false → bytes_eq (front rest) (innermost m) ≡ false → is_level m.levels (front rest) ≡ true → Closing m rest

-- the condition on a token of this many bytes
abbrev pub TokenFact : At → Mode → List ℕ → TokenKind → ℕ → Type 0
TokenFact w m rest kinds.Text n = InBody m × (scan 0 rest ≡ n) × (0 < n) × Seen w rest
TokenFact w m rest kinds.Whitespace n = InBody m → (m.line_start ≡ true) × (n ≤ blank_len rest) × (0 < n) × (((begins_blank_line (drop n rest) ≡ true) × (closes_levels false rest ≡ false)) ⊎ (begins_blank_line (past rest) ≡ false))
TokenFact w m rest kinds.Indent n = (m.openers ≡ []) × LineInfo First (drop n rest)
TokenFact w m rest kinds.Eol n = InBody m → ((b : Bool) → closes_levels b rest ≡ closes_levels true (drop n rest)) × Empty w rest
TokenFact w m rest kinds.Dedent n = (n ≡ 0) × (m.interpolation ≡ None) × (InBody m → Closing m rest × NotFirst w)
TokenFact w m rest kinds.Eof n = rest ≡ []
TokenFact w m rest kinds.InterpolationStart n = InBody m
TokenFact w m rest kinds.InterpolationEnd n = m.openers ≡ []
TokenFact w m rest _ n = InBody m → ⊥

abbrev FactBy : At → Mode → List ℕ → NextToken → Type 0
FactBy w m rest (Ok x) = TokenFact w m rest x.0 x.1
FactBy w m rest (Err r) = Unit {0}

record Finds (w : At) (m : Mode) (rest : List ℕ) (found : NextToken) : Type 0 where
  fact : FactBy w m rest found

-- ---- outside the text of bodies

plain_fact : (w : At) (m : Mode) (rest : List ℕ) (k : TokenKind) (n : ℕ) → (InBody m → ⊥) → plain k ≡ true → TokenFact w m rest k n
plain_fact w m rest kinds.Whitespace n outside p = λ b. absurd (outside b)
plain_fact w m rest kinds.Eol n outside p = λ b. absurd (outside b)
plain_fact w m rest kinds.Text n outside p = cc
plain_fact w m rest kinds.Indent n outside p = cc
plain_fact w m rest kinds.Dedent n outside p = cc
plain_fact w m rest kinds.Eof n outside p = cc
plain_fact w m rest kinds.InterpolationStart n outside p = cc
plain_fact w m rest kinds.InterpolationEnd n outside p = cc
plain_fact w m rest _ n outside p = outside

plain_finds : (w : At) (m : Mode) (rest : List ℕ) (found : NextToken) → (InBody m → ⊥) → Plain found → Finds w m rest found
plain_finds w m rest (Ok x) outside p = record { fact = plain_fact w m rest x.0 x.1 outside p.by }
plain_finds w m rest (Err r) outside p = record { fact = tt }

-- ---- the text of a body

past_end : (x : ℕ) (xs : List ℕ) → is_line_end (x ∷ xs) ≡ true → blank (class_of x) ≡ false
unfolding class_of
past_end x xs h = grind (arith, nat_tests)

pub not_blank_past : (rest : List ℕ) → head_is blank rest ≡ false → past rest ≡ rest
not_blank_past rest h = ap (λ n. drop n rest) (none_here rest h)

pub past_line_end : (x : ℕ) (xs : List ℕ) → is_line_end (x ∷ xs) ≡ true → past (x ∷ xs) ≡ x ∷ xs
past_line_end x xs h = not_blank_past (x ∷ xs) (past_end x xs h)

empty_line : (w : At) (x : ℕ) (xs : List ℕ) → is_line_end (x ∷ xs) ≡ true → LineInfo w (x ∷ xs) → Empty w (x ∷ xs)
empty_line First x xs h i = let bad : true ≡ false = sym (ap (λ b. b || false) h) ∙ i.1 in cc
empty_line Amid x xs h i = tt
empty_line Start x xs h i =
    ⊎_elim
    (λ p. let bad : true ≡ false = sym (ap (λ b. b || false) h) ∙ sym (ap begins_blank_line (past_line_end x xs h)) ∙ p in cc)
    (λ p. p.1) i

seen_text : (w : At) (x : ℕ) (xs : List ℕ) (n : ℕ) → scan 0 (x ∷ xs) ≡ suc n → LineInfo w (x ∷ xs) → Seen w (x ∷ xs)
seen_text First x xs n e i = i
seen_text Amid x xs n e i = tt
seen_text Start x xs n e i = ⊎_elim (λ p. p) (λ p. let bad : true ≡ false = sym p.0 ∙ text_no_end x xs n e in cc) i

feed_closes : (x : ℕ) (xs : List ℕ) → eqb x 10 ≡ true → (b : Bool) → closes_levels b (x ∷ xs) ≡ closes_levels true xs
unfolding closes_levels class_of
feed_closes x xs h b = let at : x ≡ 10 = grind (arith, nat_tests) in ap (λ y. closes_levels b (y ∷ xs)) at

return_closes : (x : ℕ) (xs : List ℕ) → eqb x 13 ≡ true → eqb (get_or xs 0 0) 10 ≡ true → (b : Bool) → closes_levels b (x ∷ xs) ≡ closes_levels true (drop 1 xs)
unfolding closes_levels class_of
return_closes x [] h g b = cc
return_closes x (y ∷ ys) h g b =
    let first : x ≡ 13 = grind (arith, nat_tests) in
    let second : y ≡ 10 = grind (arith, nat_tests) in
    (λ i. closes_levels b (first i ∷ second i ∷ ys))

-- where no text is, the scan stops
pub stops_here : (x : ℕ) (xs : List ℕ) → scan 0 (x ∷ xs) ≡ 0 → ends raw_texts.Body (x ∷ xs) ≡ true
unfolding pieces_len
stops_here x xs e = grind (arith, nat_tests)

body_finds : (w : At) (m : Mode) (x : ℕ) (xs : List ℕ) → InBody m → LineInfo w (x ∷ xs) → Finds w m (x ∷ xs) (body_token (x ∷ xs))
unfolding body_token
body_finds w m x xs b i = by (scan 0 (x ∷ xs)) refl
  where
    at_end : scan 0 (x ∷ xs) ≡ 0 → (s t : Bool) → eqb x 10 ≡ s → eqb x 13 ≡ t → Finds w m (x ∷ xs) (cond s (Ok (kinds.Eol, 1)) (cond t (Ok (kinds.Eol, 2)) (Ok (kinds.InterpolationStart, 2))))
    at_end e true t h g = record { fact = λ _. (feed_closes x xs h, empty_line w x xs (ap (λ c. c || (eqb x 13 && eqb (get_or xs 0 0) 10)) h) i) }
    at_end e false true h g =
        let stop = stops_here x xs e in
        let second : eqb (get_or xs 0 0) 10 ≡ true = grind (arith, nat_tests) in
        record { fact = λ _. (return_closes x xs g second, empty_line w x xs ((λ j. h j || (g j && second j))) i) }
    at_end e false false h g = record { fact = b }

    by : (n : ℕ) → scan 0 (x ∷ xs) ≡ n → Finds w m (x ∷ xs) (text_or n x)
    by zero e = at_end e (eqb x 10) (eqb x 13) refl refl
    by (suc n) e = record { fact = (b, e, omega arith, seen_text w x xs n e i) }

-- ---- tokens other than dedents, indents, and the blanks at the start of a line

open_none : (os : List OpenDelimiter) → is_empty os ≡ true → os ≡ []
open_none [] h = refl
open_none (o ∷ os) h = cc

inside_finds : (w : At) (m : Mode) (x : ℕ) (xs : List ℕ) → (InBody m → LineInfo w (x ∷ xs)) → Finds w m (x ∷ xs) (token_within_line m (x ∷ xs))
unfolding token_within_line
inside_finds w m x xs i = by (region_by m.in_body m.interpolation) refl
  where
    interpolation : (b : Bool) → (is_empty m.openers && is_interpolation_end (x ∷ xs)) ≡ b → (InBody m → ⊥) → Finds w m (x ∷ xs) (cond b (Ok (kinds.InterpolationEnd, 2)) (token_outside_text m (x ∷ xs)))
    interpolation true h outside = record { fact = open_none m.openers (and_parts (is_empty m.openers) _ h).0 }
    interpolation false h outside = plain_finds w m (x ∷ xs) _ outside (outside_plain m (x ∷ xs))

    by : (p : Region) → region_by m.in_body m.interpolation ≡ p → Finds w m (x ∷ xs) (token_in_region p m (x ∷ xs))
    by InText e = body_finds w m x xs e (i e)
    by InInterpolation e = interpolation _ refl (λ b. let bad : InInterpolation ≡ InText = sym e ∙ b in cc)
    by OutsideText e = plain_finds w m (x ∷ xs) _ (λ b. let bad : OutsideText ≡ InText = sym e ∙ b in cc) (outside_plain m (x ∷ xs))

-- ---- at the start of a line

past_blank : (rest : List ℕ) → head_is blank (past rest) ≡ false
past_blank [] = refl
past_blank (x ∷ xs) = grind (arith, past_blank xs, one-add (blank_len xs))

front_length : (rest : List ℕ) → length (front rest) ≡ blank_len rest
front_length rest = let fits = prefix_len-le-length is_blank rest in omega (arith, length-take (blank_len rest) rest)

-- a prefix of a text isn't longer than the text
begun_within : (xs ys : List ℕ) → starts_with nat_eq xs ys ≡ true → length ys ≤ length xs
begun_within xs ys h =
    let same : ys ≡ take (length ys) xs = (bytes_eq-Decides ys (take (length ys) xs)).0 h in
    omega (arith, ap length same, length-take (length ys) xs)

pub no_interpolation : (b : Bool) (o : Option Tok) → region_by b o ≡ InText → o ≡ None
no_interpolation b (Some t) e = cc
no_interpolation b None e = refl

pub in_body_there : (b : Bool) (o : Option Tok) → region_by b o ≡ InText → b ≡ true
in_body_there b (Some t) e = cc
in_body_there true None e = refl
in_body_there false None e = cc

module _ (w : At) (m : Mode) (x : ℕ) (xs : List ℕ) (clear : Clear m) (ready : Ready w m (x ∷ xs)) (at_start : m.line_start ≡ true) where
  choose : (b : Bool) {f g : NextToken} → (b ≡ true → Finds w m (x ∷ xs) f) → (b ≡ false → Finds w m (x ∷ xs) g) → Finds w m (x ∷ xs) (cond b f g)
  choose true p q = p refl
  choose false p q = q refl

  line_info : (w : At) → Ready w m (x ∷ xs) → InBody m → LineSeen (x ∷ xs) → LineInfo w (x ∷ xs)
  line_info First r b s = let bad : true ≡ false = sym at_start ∙ (r b).0 in cc
  line_info Start r b s = s
  line_info Amid r b s = tt

  not_first : (w : At) → Ready w m (x ∷ xs) → InBody m → NotFirst w
  not_first First r b = let bad : true ≡ false = sym at_start ∙ (r b).0 in cc
  not_first Start r b = tt
  not_first Amid r b = tt

  blanks_finds : (n : ℕ) → n ≤ blank_len (x ∷ xs) → (InBody m → ((begins_blank_line (drop n (x ∷ xs)) ≡ true) × (closes_levels false (x ∷ xs) ≡ false)) ⊎ (begins_blank_line (past (x ∷ xs)) ≡ false)) → Finds w m (x ∷ xs) (blanks_or n m (x ∷ xs))
  blanks_finds zero l s = inside_finds w m x xs (λ b. line_info w ready b (⊎_elim (λ p. inr p) (λ p. inl p) (s b)))
  blanks_finds (suc n) l s = record { fact = λ b. (at_start, l, omega arith, s b) }

  not_nested : InBody m → nested m ≡ false
  not_nested b = (λ i. not (is_empty ((clear.0 b) i)) || is_some (no_interpolation m.in_body m.interpolation b i))

  levels_there : InBody m → is_empty m.levels ≡ false
  levels_there b = clear.1 (in_body_there m.in_body m.interpolation b)

  unnested : (os : List OpenDelimiter) (o : Option Tok) → (not (is_empty os) || is_some o) ≡ false → (os ≡ []) × (o ≡ None)
  unnested [] None h = (refl, refl)
  unnested [] (Some t) h = cc
  unnested (o ∷ os) p h = cc

  layout_finds : Finds w m (x ∷ xs) (layout m (front (x ∷ xs)) (past (x ∷ xs)) (x ∷ xs))
  unfolding layout
  layout_finds =
      let found = front (x ∷ xs) in
      let size : length found ≡ blank_len (x ∷ xs) = front_length (x ∷ xs) in
      let all : length found ≤ blank_len (x ∷ xs) = omega (arith, size) in
      let following : drop (length found) (x ∷ xs) ≡ past (x ∷ xs) = ap (λ n. drop n (x ∷ xs)) size in
      choose (nested m) (λ n. blanks_finds (length found) all (λ b. let bad : true ≡ false = sym n ∙ not_nested b in cc)) (λ n.
      let closed = unnested m.openers m.interpolation n in
      choose (begins_blank_line (past (x ∷ xs)))
      (λ e. choose (not (is_empty m.levels) && closes_levels false (x ∷ xs))
      (λ c. record { fact = (refl, closed.1, λ b. (AtBlankLine at_start (and_parts (not (is_empty m.levels)) _ c).1, not_first w ready b)) })
      (λ c. blanks_finds (length found) all (λ b. inl (ap begins_blank_line following ∙ e, sym (ap (λ l. not l && closes_levels false (x ∷ xs)) (levels_there b)) ∙ c))))
      (λ e.
      choose (bytes_eq found (innermost m)) (λ _. blanks_finds (length found) all (λ b. inr e)) (λ differ.
      choose (is_level m.levels found) (λ level. record { fact = (refl, closed.1, λ b. (AtLevel at_start e differ level, not_first w ready b)) }) (λ _.
      choose (m.in_body && starts_with nat_eq found (innermost m)) (λ s. blanks_finds (length (innermost m)) (omega (arith, all, begun_within found (innermost m) (and_parts m.in_body _ s).1)) (λ b. inr e)) (λ _.
      choose (is_mixed (tested_blanks m found)) (λ _. record { fact = tt }) (λ _.
      choose (not (starts_with nat_eq found (innermost m))) (λ _. record { fact = tt }) (λ _.
      record { fact = (closed.0, (ap (head_is blank) following ∙ past_blank (x ∷ xs), ap begins_blank_line following ∙ e)) })))))))

-- ---- the next token

inside_info : (w : At) (m : Mode) (rest : List ℕ) → Ready w m rest → m.line_start ≡ false → InBody m → LineInfo w rest
inside_info First m rest r s b = (r b).1
inside_info Start m rest r s b = r b s
inside_info Amid m rest r s b = tt

end_finds : (w : At) (m : Mode) (o : Option Tok) (ls : List (List ℕ)) → m.interpolation ≡ o → Ready w m [] → Finds w m [] (at_end_by o ls)
end_finds w m (Some t) ls e r = record { fact = tt }
end_finds w m None [] e r = record { fact = refl }
end_finds w m None (l ∷ ls) e r = record { fact = (refl, e, λ b. (AtEnd refl, not_first w r b)) }
  where
    not_first : (w : At) → Ready w m [] → InBody m → NotFirst w
    not_first First r b = let bad : true ≡ false = (r b).1.1 in cc
    not_first Start r b = tt
    not_first Amid r b = tt

next_finds : (w : At) (m : Mode) (rest : List ℕ) → Clear m → Ready w m rest → Finds w m rest (next m rest)
unfolding next
next_finds w m [] clear ready = end_finds w m m.interpolation m.levels refl ready
next_finds w m (x ∷ xs) clear ready = by m.line_start refl
  where
    by : (b : Bool) → m.line_start ≡ b → Finds w m (x ∷ xs) (next_by b m (x ∷ xs))
    by true e = layout_finds w m x xs clear ready e
    by false e = inside_finds w m x xs (inside_info w m (x ∷ xs) ready e)

-- the next token satisfies its condition
pub token_fact : (w : At) (m : Mode) (rest : List ℕ) (k : TokenKind) (n : ℕ) → Clear m → Ready w m rest → next m rest ≡ Ok (k, n) → TokenFact w m rest k n
token_fact w m rest k n clear ready e = (subst (Finds w m rest) e (next_finds w m rest clear ready)).fact
