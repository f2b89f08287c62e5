-- In the tokens of any text, each text of a body ends before what is printed after it, and only the last body can end in white lines that
-- keep levels open.
use Rattle.std.proofs.Common.{◌≡◌, ℕ, zero, suc, ◌+◌, ◌-◌, ◌<◌, ◌≤◌, Bool, true, false, cond, eqb, List, [], ◌∷◌, ◌++◌, inl, inr, length, get_or, take, drop, Option, Some, None, Ok, Err, refl, sym, ap, ◌∙◌, subst, ⊎_elim, arith, take-append-drop}
use Rattle.std.specs.Prelude.{◌&&◌, ◌||◌, is_some, reverse}
use Rattle.std.specs.Str.{bytes_eq}
use Rattle.std.proofs.lemmas.Bool.{and_parts, not-true, false_from_ne_true}
use Rattle.std.proofs.lemmas.Bool.Decides.{nat_tests}
use Rattle.std.proofs.lemmas.List.{reverse-append, reverse-reverse, nil_from_length}
use Rattle.std.proofs.Math.Bool.{or-false}
use Rattle.std.proofs.Math.Numerals.{one-add}
use Rattle.justfile_round_trip.proofs.LiteralTexts.Literals.{return_byte}
use Rattle.justfile_vocabulary.specs.declared.byte_class.ByteClass.{ByteClass}
use Rattle.justfile_vocabulary.specs.declared.byte_class.ByteClass.TheVariants as classes
use Rattle.justfile_vocabulary.specs.declared.token_kind.TokenKind.{TokenKind}
use Rattle.justfile_vocabulary.specs.declared.token_kind.TokenKind.TheVariants as kinds
use Rattle.justfile_vocabulary.specs.ByteClass.{class_of}
use Rattle.justfile_model.specs.Lexing.Bytes.{blank, white, line_feed, blank_len, is_line_end, closes_levels}
use Rattle.justfile_model.specs.Lexing.LexicalFault.{UnpairedCarriageReturn, Here}
use Rattle.justfile_model.specs.Lexing.Tok.{Tok}
use Rattle.justfile_model.specs.Lexing.SignificantTokens.{SignificantToken, is_whitespace, significant_from}
use Rattle.justfile_model.specs.Lexing.Modes.{Mode, start_mode, mode_after, is_empty, tail_of, innermost_of}
use Rattle.justfile_model.specs.Lexing.Lexed.{Lexed}
use Rattle.justfile_model.specs.Lexing.Next.{NextToken, token_by_class, token_within_line, body_token, text_or, InText, region_by, token_in_region, at_end_by, is_level, begins_blank_line, next}
use Rattle.justfile_model.specs.Printed.Printing.{ends_in_return}
use Rattle.justfile_model.proofs.Lexing.CutLemmas.{is_line_feed}
use Rattle.justfile_round_trip.proofs.LiteralTexts.LexedModes.{take_front, drop_front}
use Rattle.justfile_round_trip.proofs.LiteralTexts.Inline.{Each, head_is}
use Rattle.justfile_round_trip.proofs.RecipeBodies.Lines.{at_item, item_next}
use Rattle.justfile_round_trip.proofs.RecipeBodies.BodyLines.{IsRaw, IsWhite, white_blanks, closes_over, no_feed, swapped}
use Rattle.justfile_round_trip.proofs.LiteralTexts.RawTexts.{scan, NoFeed, one_more, text_no_feed, text_rest, raw_newline, raw_braces}
use Rattle.justfile_round_trip.proofs.Values.TokenFacts.{Runs, runs_one, runs_from, whitespace_kind}
use Rattle.justfile_round_trip.proofs.Good.{pale}
use Rattle.justfile_round_trip.proofs.RecipeBodies.BodyTokens.{InBody, Clear, At, First, Start, Amid, front, past, Ready, Seen, Empty, NotFirst, Closing, AtEnd, AtBlankLine, AtLevel, TokenFact, token_fact, no_interpolation, in_body_there, stops_here, not_blank_past, past_line_end}

-- ---- runs of blanks

blanks_taken : (n : ℕ) (rest : List ℕ) → n ≤ blank_len rest → Each blank (take n rest)
blanks_taken zero rest l = tt
blanks_taken (suc n) [] l = tt
blanks_taken (suc n) (x ∷ xs) l = (grind arith, blanks_taken n xs (grind arith))

past_after : (n : ℕ) (rest : List ℕ) → n ≤ blank_len rest → past (drop n rest) ≡ past rest
past_after zero rest l = refl
past_after (suc n) [] l = refl
past_after (suc n) (x ∷ xs) l = past_after n xs (grind arith) ∙ ap (λ k. drop k (x ∷ xs)) (sym (one_more x xs (grind arith)))

taken_some : (n : ℕ) (rest : List ℕ) → 0 < n → n ≤ blank_len rest → is_empty (take n rest) ≡ false
taken_some zero rest p l = absurd (omega (arith, p))
taken_some (suc n) [] p l = absurd (omega (arith, l))
taken_some (suc n) (x ∷ xs) p l = refl

blanks_closes : (last : Bool) (n : ℕ) (rest : List ℕ) → 0 < n → n ≤ blank_len rest → closes_levels last rest ≡ closes_levels false (drop n rest)
blanks_closes last n rest p l =
    ap (closes_levels last) (sym (take-append-drop n rest))
    ∙ closes_over last (take n rest) (drop n rest) (white_blanks (take n rest) (blanks_taken n rest l))
    ∙ ap (λ b. closes_levels (cond b last false) (drop n rest)) (taken_some n rest p l)

-- ---- what a token leaves

-- the place after a token that is not whitespace
abbrev pub at_after : TokenKind → At
at_after kinds.Indent = First
at_after kinds.Eol = Start
at_after _ = Amid

-- the place after any token
abbrev pub place_after : TokenKind → At → At
place_after k w = cond (is_whitespace k) w (at_after k)

clear_after : (w : At) (m : Mode) (rest : List ℕ) (k : TokenKind) (n : ℕ) (t : Tok) → TokenFact w m rest k n → Clear m → Clear (mode_after k t m)
clear_after w m rest kinds.Indent n t f c = (λ b. f.0, λ b. refl)
clear_after w m rest kinds.Dedent n t f c = (λ b. absurd (outside m.interpolation b), λ b. cc)
  where
    outside : (o : Option Tok) → region_by false o ≡ InText → ⊥
    outside None e = cc
    outside (Some t) e = cc
clear_after w m rest kinds.InterpolationStart n t f c = (λ b. cc, c.1)
clear_after w m rest kinds.InterpolationEnd n t f c = (λ b. f, c.1)
clear_after w m rest kinds.Text n t f c = c
clear_after w m rest kinds.Whitespace n t f c = c
clear_after w m rest kinds.Eol n t f c = c
clear_after w m rest kinds.Eof n t f c = c
clear_after w m rest _ n t f c = (λ b. absurd (f b), c.1)

blanks_ready : (w : At) (m : Mode) (rest : List ℕ) (n : ℕ) (t : Tok) → TokenFact w m rest kinds.Whitespace n → Ready w m rest → Ready w (mode_after kinds.Whitespace t m) (drop n rest)
blanks_ready Amid m rest n t f r = tt
blanks_ready First m rest n t f r = λ b. let bad : true ≡ false = sym ((f b).0) ∙ (r b).0 in cc
blanks_ready Start m rest n t f r = λ b s.
    ⊎_elim
    (λ p. inr (p.0, sym (blanks_closes false n rest ((f b).2) ((f b).1)) ∙ p.1))
    (λ p. inl (ap begins_blank_line (past_after n rest ((f b).1)) ∙ p))
    ((f b).3)

ready_after : (w : At) (m : Mode) (rest : List ℕ) (k : TokenKind) (n : ℕ) (t : Tok) → TokenFact w m rest k n → Ready w m rest → Ready (place_after k w) (mode_after k t m) (drop n rest)
ready_after w m rest kinds.Whitespace n t f r = blanks_ready w m rest n t f r
ready_after w m rest kinds.Indent n t f r = λ b. (refl, f.1)
ready_after w m rest kinds.Eol n t f r = λ b s. cc
ready_after w m rest _ n t f r = tt

-- ---- levels that are held open

-- An empty line came in this body, and all since then is white: levels were held unclosed in front of that run.
abbrev pub held_after : TokenKind → List ℕ → At → Bool → Bool
held_after kinds.Text l w held = held && pale l
held_after kinds.Eol l Start held = true
held_after kinds.Eol l w held = held
held_after kinds.Whitespace l w held = held
held_after _ l w held = false

abbrev Held : Bool → Mode → List ℕ → Type 0
Held held m rest = held ≡ true → InBody m → closes_levels m.line_start rest ≡ false

pale_white : (t : List ℕ) → pale t ≡ true → NoFeed t → IsWhite t
pale_white [] p h = tt
pale_white (x ∷ xs) p h =
    let parts = and_parts (white (class_of x)) (pale xs) p in
    (parts.0, not-true (line_feed (class_of x)) h.0, pale_white xs parts.1 h.1)

text_closes : (last : Bool) (t following : List ℕ) → 0 < length t → pale t ≡ true → NoFeed t → closes_levels last (t ++ following) ≡ closes_levels false following
text_closes last [] following n p h = absurd (omega (arith, n))
text_closes last (x ∷ xs) following n p h = closes_over last (x ∷ xs) following (pale_white (x ∷ xs) p h)

held_eol : (w : At) (m : Mode) (rest : List ℕ) (n : ℕ) (t : Tok) (held : Bool) → TokenFact w m rest kinds.Eol n → Held held m rest → Held (held_after kinds.Eol t.lexeme w held) (mode_after kinds.Eol t m) (drop n rest)
held_eol Start m rest n t held f h = λ e b. sym ((f b).0 false) ∙ (f b).1
held_eol First m rest n t held f h = λ e b. absurd ((f b).1)
held_eol Amid m rest n t held f h = λ e b. sym ((f b).0 m.line_start) ∙ h e b

held_step : (w : At) (m : Mode) (l following : List ℕ) (k : TokenKind) (t : Tok) (held : Bool) → t.lexeme ≡ l → TokenFact w m (l ++ following) k (length l) → Held held m (l ++ following) → Held (held_after k l w held) (mode_after k t m) following
held_step w m l following kinds.Text t held s f h = λ e b.
    let parts = and_parts held (pale l) e in
    sym (text_closes m.line_start l following f.2 parts.1 (text_no_feed l following f.1)) ∙ h parts.0 b
held_step w m l following kinds.Eol t held s f h = subst (Held (held_after kinds.Eol l w held) (mode_after kinds.Eol t m)) (drop_front l following) (subst (λ v. Held (held_after kinds.Eol v w held) (mode_after kinds.Eol t m) (drop (length l) (l ++ following))) s (held_eol w m (l ++ following) (length l) t held f h))
held_step w m l following kinds.Whitespace t held s f h = λ e b.
    let blanks : Each blank l = subst (Each blank) (take_front l following) (blanks_taken (length l) (l ++ following) ((f b).1)) in
    let line : eqb (get_or t.lexeme (length t.lexeme - 1) 0) 10 ≡ false = ap (λ v. eqb (get_or v (length v - 1) 0) 10) s ∙ no_feed l blanks (length l - 1) in
    ap (λ c. closes_levels c following) line ∙ ap (closes_levels false) (sym (drop_front l following)) ∙ sym (blanks_closes m.line_start (length l) (l ++ following) ((f b).2) ((f b).1)) ∙ h e b
held_step w m l following _ t held s f h = λ e. cc

-- ---- after text

-- a line that a text begins and ends is not of blanks alone
abbrev pub OnLine : At → List ℕ → Type 0
OnLine Start t = is_empty (past t) ≡ false
OnLine _ t = Unit {0}

-- the first line of a body begins with no blank
abbrev pub Flush : At → List ℕ → Type 0
Flush First t = head_is blank t ≡ false
Flush _ t = Unit {0}

-- the text is the last of its line
abbrev pub LastKnown : At → List ℕ → Type 0
LastKnown w t = (ends_in_return t ≡ false → IsRaw t (10 ∷ [])) × OnLine w t × Flush w t

-- by the kind of the token after it
abbrev pub TextKnown : At → List ℕ → TokenKind → Type 0
TextKnown w t kinds.Eol = LastKnown w t
TextKnown w t kinds.Dedent = LastKnown w t
TextKnown w t kinds.InterpolationStart = IsRaw t (123 ∷ 123 ∷ 32 ∷ []) × Flush w t
TextKnown w t _ = ⊥

abbrev FollowsBy : At → List ℕ → NextToken → Type 0
FollowsBy w t (Ok x) = TextKnown w t x.0
FollowsBy w t (Err r) = Unit {0}

record FollowsText (w : At) (t : List ℕ) (found : NextToken) : Type 0 where
  known : FollowsBy w t found

all_blank : (t following : List ℕ) → is_empty (past t) ≡ true → past (t ++ following) ≡ past following
all_blank [] following h = refl
all_blank (x ∷ xs) following h = go (blank (class_of x)) h (all_blank xs following)
  where
    go : (b : Bool) → is_empty (drop (cond b (1 + blank_len xs) 0) (x ∷ xs)) ≡ true → (is_empty (past xs) ≡ true → past (xs ++ following) ≡ past following) → drop (cond b (1 + blank_len (xs ++ following)) 0) (x ∷ xs ++ following) ≡ past following
    go true h ih = ap (λ n. drop n (x ∷ xs ++ following)) (one-add (blank_len (xs ++ following))) ∙ ih (sym (ap (λ n. is_empty (drop n (x ∷ xs))) (one-add (blank_len xs))) ∙ h)
    go false h ih = cc

-- after the text the line ends
past_end : (following : List ℕ) → begins_blank_line following ≡ true → begins_blank_line (past following) ≡ true
past_end [] h = refl
past_end (x ∷ xs) h = ap begins_blank_line (past_line_end x xs (sym (or-false (is_line_end (x ∷ xs))) ∙ h)) ∙ h

on_line : (w : At) (t following : List ℕ) → begins_blank_line following ≡ true → Seen w (t ++ following) → OnLine w t
on_line First t following h s = tt
on_line Amid t following h s = tt
on_line Start t following h s =
    false_from_ne_true (is_empty (past t)) (λ e. let bad : true ≡ false = sym (past_end following h) ∙ sym (ap begins_blank_line (all_blank t following e)) ∙ s in cc)

flush : (w : At) (t following : List ℕ) → 0 < length t → Seen w (t ++ following) → Flush w t
flush Start t following n s = tt
flush Amid t following n s = tt
flush First [] following n s = absurd (omega (arith, n))
flush First (x ∷ xs) following n s = s.0

not_empty : (t : List ℕ) → 0 < length t → is_empty t ≡ false
not_empty [] n = absurd (omega (arith, n))
not_empty (x ∷ xs) n = refl

last_known : (w : At) (t following : List ℕ) → scan 0 (t ++ following) ≡ length t → 0 < length t → Seen w (t ++ following) → begins_blank_line following ≡ true → LastKnown w t
last_known w t following e n s h = (raw_newline t following (not_empty t n) e, on_line w t following h s, flush w t following n s)

module _ (w : At) (t : List ℕ) (x : ℕ) (xs : List ℕ) (e : scan 0 (t ++ (x ∷ xs)) ≡ length t) (some : 0 < length t) (seen : Seen w (t ++ (x ∷ xs))) where
  text_follows : FollowsText w t (text_or 0 x)
  text_follows = by (eqb x 10) (eqb x 13) refl refl (stops_here x xs (text_rest t (x ∷ xs) e))
    where
      second : Bool
      second = eqb (get_or xs 0 0) 10

      brace : Bool
      brace = eqb x 123 && eqb (get_or xs 0 0) 123

      by : (s r : Bool) → eqb x 10 ≡ s → eqb x 13 ≡ r → ((eqb x 10 || (eqb x 13 && second)) || brace) ≡ true → FollowsText w t (cond s (Ok (kinds.Eol, 1)) (cond r (Ok (kinds.Eol, 2)) (Ok (kinds.InterpolationStart, 2))))
      by true r f g h = record { known = last_known w t (x ∷ xs) e some seen (ap (λ b. (b || (eqb x 13 && second)) || false) f) }
      by false true f g h =
          let feed : second ≡ true = grind (arith, nat_tests) in
          record { known = last_known w t (x ∷ xs) e some seen (λ i. (f i || (g i && feed i)) || false) }
      by false false f g h = record { known = (raw_braces t (x ∷ xs) (not_empty t some) e (sym (λ i. (f i || (g i && second)) || brace) ∙ h), flush w t (x ∷ xs) some seen) }

after_text : (w : At) (m : Mode) (t following : List ℕ) (s : Tok) → Clear m → InBody m → scan 0 (t ++ following) ≡ length t → 0 < length t → Seen w (t ++ following) → FollowsText w t (next (mode_after kinds.Text s m) following)
unfolding next token_within_line body_token
after_text w m t [] s clear b e some seen = by m.interpolation m.levels (no_interpolation m.in_body m.interpolation b) (clear.1 (in_body_there m.in_body m.interpolation b))
  where
    by : (o : Option Tok) (ls : List (List ℕ)) → o ≡ None → is_empty ls ≡ false → FollowsText w t (at_end_by o ls)
    by (Some s) ls e h = cc
    by None [] e h = cc
    by None (l ∷ ls) e' h = record { known = last_known w t [] e some seen refl }
after_text w m t (x ∷ xs) s clear b e some seen =
    subst (λ p. FollowsText w t (token_in_region p (mode_after kinds.Text s m) (x ∷ xs))) (sym b) (subst (λ n. FollowsText w t (text_or n x)) (sym (text_rest t (x ∷ xs) e)) (text_follows w t x xs e some seen))

pub text_known : (w : At) (m : Mode) (t following : List ℕ) (s : Tok) (k : TokenKind) (n : ℕ) → Clear m → TokenFact w m (t ++ following) kinds.Text (length t) → next (mode_after kinds.Text s m) following ≡ Ok (k, n) → TextKnown w t k
text_known w m t following s k n clear f e = (subst (FollowsText w t) e (after_text w m t following s clear f.0 f.1 f.2 f.3)).known

-- ---- after a body whose last lines hold its level open

-- a white byte that isn't a blank and doesn't begin a line end doesn't begin a token
white_refused : (x : ℕ) (xs : List ℕ) (k : TokenKind) (n : ℕ) → white (class_of x) ≡ true → blank (class_of x) ≡ false → begins_blank_line (x ∷ xs) ≡ false → next (at_item false) (x ∷ xs) ≡ Ok (k, n) → ⊥
unfolding token_by_class
white_refused x xs k n w b seen found = by (class_of x) refl w b (sym (item_next false x xs b) ∙ found)
  where
    by : (c : ByteClass) → class_of x ≡ c → white c ≡ true → blank c ≡ false → token_by_class (at_item false) c (x ∷ xs) ≡ Ok (k, n) → ⊥
    by classes.Blank e w b f = cc
    by classes.LineFeed e w b f =
        let at : eqb x 10 ≡ true = is_line_feed x classes.LineFeed e in
        let bad : true ≡ false = sym (ap (λ c. (c || (eqb x 13 && eqb (get_or xs 0 0) 10)) || false) at) ∙ seen in
        cc
    by classes.CarriageReturn e w b f = go (eqb (get_or xs 0 0) 10) refl f
      where
        at : x ≡ 13
        at = return_byte x e

        go : (t : Bool) → eqb (get_or xs 0 0) 10 ≡ t → cond {A = NextToken} t (Ok (kinds.Eol, 2)) (Err (Here UnpairedCarriageReturn 0 1)) ≡ Ok (k, n) → ⊥
        go true h f = let bad : true ≡ false = sym (λ i. (eqb (at i) 10 || (eqb (at i) 13 && h i)) || false) ∙ seen in cc
        go false h f = cc
    by _ e w b f = cc

abbrev kind_found : NextToken → TokenKind
kind_found (Ok x) = x.0
kind_found (Err r) = kinds.Eof

one_level : (ls : List (List ℕ)) → length ls ≡ 1 → tail_of ls ≡ []
one_level [] h = absurd (omega (arith, h))
one_level (l ∷ []) h = refl
one_level (l ∷ k ∷ ls) h = absurd (omega (arith, h))

-- a run that does not close levels after a line feed does not close them elsewhere
closes_neither : (rest : List ℕ) → closes_levels true rest ≡ false → closes_levels false rest ≡ false
unfolding closes_levels
closes_neither [] h = refl
closes_neither (x ∷ xs) h = grind arith

white_there : (x : ℕ) (xs : List ℕ) → closes_levels true (x ∷ xs) ≡ false → white (class_of x) ≡ true
unfolding closes_levels
white_there x xs h = grind arith

-- the blanks of an open level that is not the current one, where no other is open: none
no_blanks : (ls : List (List ℕ)) (found : List ℕ) → length ls ≡ 1 → bytes_eq found (innermost_of ls) ≡ false → is_level ls found ≡ true → found ≡ []
no_blanks [] found n d h = absurd (omega (arith, n))
no_blanks (l ∷ k ∷ ls) found n d h = absurd (omega (arith, n))
no_blanks (l ∷ []) [] n d h = refl
no_blanks (l ∷ []) (y ∷ ys) n d h = let bad : true ≡ false = sym h ∙ ap (λ b. b || false) (swapped (y ∷ ys) l d) in cc

front_nothing : (x : ℕ) (xs : List ℕ) → front (x ∷ xs) ≡ [] → blank (class_of x) ≡ false
front_nothing x xs h = false_from_ne_true (blank (class_of x)) (λ b. let bad : x ∷ take (blank_len xs) xs ≡ [] = sym (ap (λ n. take n (x ∷ xs)) (one_more x xs b)) ∙ h in cc)

module _ (m : Mode) (s : Tok) (k : TokenKind) (n : ℕ) (clear : Clear m) (b : InBody m) (one : length m.levels ≡ 1) where
  outside_is : m.line_start ≡ true → mode_after kinds.Dedent s m ≡ at_item false
  outside_is e = λ i. record {
    openers = clear.0 b i;
    levels = one_level m.levels one i;
    colon = false;
    in_body = false;
    interpolation = no_interpolation m.in_body m.interpolation b i;
    line_start = e i;
    after_f = false;
  }

  nothing_left : next (mode_after kinds.Dedent s m) [] ≡ Ok (k, n) → k ≡ kinds.Eof
  unfolding next
  nothing_left e = sym (ap kind_found (sym (λ i. at_end_by (no_interpolation m.in_body m.interpolation b i) (one_level m.levels one i)) ∙ e))

  only_end : (rest : List ℕ) → Closing m rest → closes_levels m.line_start rest ≡ false → next (mode_after kinds.Dedent s m) rest ≡ Ok (k, n) → k ≡ kinds.Eof
  only_end [] c held e = nothing_left e
  only_end (x ∷ xs) (AtEnd h) held e = cc
  only_end (x ∷ xs) (AtBlankLine start closes) held e =
      let unclosed : closes_levels true (x ∷ xs) ≡ false = sym (ap (λ c. closes_levels c (x ∷ xs)) start) ∙ held in
      let bad : true ≡ false = sym closes ∙ closes_neither (x ∷ xs) unclosed in
      cc
  only_end (x ∷ xs) (AtLevel start shown differ level) held e =
      let unclosed : closes_levels true (x ∷ xs) ≡ false = sym (ap (λ c. closes_levels c (x ∷ xs)) start) ∙ held in
      let blank_no = front_nothing x xs (no_blanks m.levels (front (x ∷ xs)) one differ level) in
      let seen : begins_blank_line (x ∷ xs) ≡ false = sym (ap begins_blank_line (not_blank_past (x ∷ xs) blank_no)) ∙ shown in
      absurd (white_refused x xs k n (white_there x xs unclosed) blank_no seen (sym (ap (λ q. next q (x ∷ xs)) (outside_is start)) ∙ e))

-- ---- along the tokens

-- The place of the next token, by the tokens so far: its position in a body, whether levels are held open, whether there is a colon since the last dedent, whether a body and an interpolation in it are open, and the number of open levels.
pub record Situation : Type 0 where
  pub at : At
  pub held : Bool
  pub colon : Bool
  pub body : Bool
  pub interpolation : Bool
  pub levels : ℕ

abbrev pub colon_after : TokenKind → Bool → Bool
colon_after kinds.Colon colon = true
colon_after kinds.Dedent colon = false
colon_after _ colon = colon

abbrev pub body_after : TokenKind → Bool → Bool → Bool
body_after kinds.Indent colon inner = inner || colon
body_after kinds.Dedent colon inner = false
body_after _ colon inner = inner

abbrev pub interpolation_after : TokenKind → Bool → Bool
interpolation_after kinds.InterpolationStart inside = true
interpolation_after kinds.InterpolationEnd inside = false
interpolation_after _ inside = inside

abbrev fewer : ℕ → ℕ
fewer zero = zero
fewer (suc n) = n

abbrev pub levels_after : TokenKind → ℕ → ℕ
levels_after kinds.Indent n = suc n
levels_after kinds.Dedent n = fewer n
levels_after _ n = n

abbrev pub situation_after : TokenKind → List ℕ → Situation → Situation
situation_after k l s = record { at = place_after k s.at; held = held_after k l s.at s.held; colon = colon_after k s.colon; body = body_after k s.colon s.body; interpolation = interpolation_after k s.interpolation; levels = levels_after k s.levels }

-- before the first token
abbrev pub no_body : Situation
no_body = record { at = Amid; held = false; colon = false; body = false; interpolation = false; levels = 0 }

record IsSituation (m : Mode) (rest : List ℕ) (s : Situation) : Type 0 where
  clear : Clear m
  ready : Ready s.at m rest
  held : Held s.held m rest
  colon : m.colon ≡ s.colon
  body : m.in_body ≡ s.body
  interpolation : is_some m.interpolation ≡ s.interpolation
  levels : length m.levels ≡ s.levels

colon_step : (k : TokenKind) (t : Tok) (m : Mode) (colon : Bool) → m.colon ≡ colon → (mode_after k t m).colon ≡ colon_after k colon
colon_step kinds.Colon t m colon e = refl
colon_step kinds.Dedent t m colon e = refl
colon_step _ t m colon e = e

body_step : (k : TokenKind) (t : Tok) (m : Mode) (colon inner : Bool) → m.colon ≡ colon → m.in_body ≡ inner → (mode_after k t m).in_body ≡ body_after k colon inner
body_step kinds.Indent t m colon inner e f = λ i. f i || e i
body_step kinds.Dedent t m colon inner e f = refl
body_step _ t m colon inner e f = f

interpolation_step : (k : TokenKind) (t : Tok) (m : Mode) (inside : Bool) → is_some m.interpolation ≡ inside → is_some (mode_after k t m).interpolation ≡ interpolation_after k inside
interpolation_step kinds.InterpolationStart t m inside e = refl
interpolation_step kinds.InterpolationEnd t m inside e = refl
interpolation_step _ t m inside e = e

levels_step : (k : TokenKind) (t : Tok) (m : Mode) (n : ℕ) → length m.levels ≡ n → length (mode_after k t m).levels ≡ levels_after k n
levels_step kinds.Indent t m n e = ap suc e
levels_step kinds.Dedent t m n e = less m.levels n e
  where
    less : (ls : List (List ℕ)) (n : ℕ) → length ls ≡ n → length (tail_of ls) ≡ fewer n
    less [] n e = ap fewer e
    less (l ∷ ls) n e = ap fewer e
levels_step _ t m n e = e

situation_step : (m : Mode) (l following : List ℕ) (k : TokenKind) (t : Tok) (s : Situation) → t.lexeme ≡ l → TokenFact s.at m (l ++ following) k (length l) → IsSituation m (l ++ following) s → IsSituation (mode_after k t m) following (situation_after k l s)
situation_step m l following k t s same f o = record {
  clear = clear_after s.at m (l ++ following) k (length l) t f o.clear;
  ready = subst (Ready (place_after k s.at) (mode_after k t m)) (drop_front l following) (ready_after s.at m (l ++ following) k (length l) t f o.ready);
  held = held_step s.at m l following k t s.held same f o.held;
  colon = colon_step k t m s.colon o.colon;
  body = body_step k t m s.colon s.body o.colon o.body;
  interpolation = interpolation_step k t m s.interpolation o.interpolation;
  levels = levels_step k t m s.levels o.levels;
}

-- of the next token that is not whitespace
abbrev pub NextIs : (TokenKind → Type 0) → List SignificantToken → Type 0
NextIs p [] = Unit {0}
NextIs p (t ∷ ts) = p t.tok.kind

-- A text of a body ends before the text that is printed after it. The first line of a body isn't empty. A body whose last lines hold its level open is at the end of the file.
abbrev pub BodyToken : Situation → TokenKind → List ℕ → List SignificantToken → Type 0
BodyToken s kinds.Text l ts = NextIs (TextKnown s.at l) ts
BodyToken s kinds.Eol l ts = s.body ≡ true → s.interpolation ≡ false → NotFirst s.at
BodyToken s kinds.Dedent l ts = s.body ≡ true → NotFirst s.at × (s.held ≡ true → s.levels ≡ 1 → NextIs (λ k. k ≡ kinds.Eof) ts)
BodyToken s _ l ts = Unit {0}

abbrev pub BodySound : Situation → List SignificantToken → Type 0
BodySound s [] = Unit {0}
BodySound s (t ∷ ts) = BodyToken s t.tok.kind t.tok.lexeme ts × BodySound (situation_after t.tok.kind t.tok.lexeme s) ts

next_is : (p : TokenKind → Type 0) → (p kinds.Whitespace → ⊥) → (g : Bool) (u : Tok) (us : List Tok) → p u.kind → NextIs p (significant_from g (u ∷ us))
next_is p none g u us h = by (is_whitespace u.kind) refl
  where
    by : (b : Bool) → is_whitespace u.kind ≡ b → NextIs p (cond b (significant_from false us) (record { tok = u; glued = g } ∷ significant_from true us))
    by true e = absurd (none (subst p (whitespace_kind u.kind e) h))
    by false e = h

inner_body : (b : Bool) (o : Option Tok) → b ≡ true → is_some o ≡ false → region_by b o ≡ InText
inner_body true None e f = refl
inner_body true (Some t) e f = cc
inner_body false o e f = cc

not_first : (w : At) (rest : List ℕ) → Empty w rest → NotFirst w
not_first First rest e = e
not_first Start rest e = tt
not_first Amid rest e = tt

module _ (m : Mode) (l following : List ℕ) (t : Tok) (s : Situation) (g : Bool) (o : IsSituation m (l ++ following) s) where
  text_token : (ts : List Tok) → TokenFact s.at m (l ++ following) kinds.Text (length l) → Runs (mode_after kinds.Text t m) following ts → NextIs (TextKnown s.at l) (significant_from g ts)
  text_token [] f r = tt
  text_token (u ∷ us) f r = next_is (TextKnown s.at l) (λ h. h) g u us (text_known s.at m l following t u.kind (length u.lexeme) o.clear f r.2)

  dedent_token : (ts : List Tok) (f : TokenFact s.at m (l ++ following) kinds.Dedent (length l)) → InBody m → Runs (mode_after kinds.Dedent t m) following ts → s.held ≡ true → s.levels ≡ 1 → NextIs (λ k. k ≡ kinds.Eof) (significant_from g ts)
  dedent_token [] f b r held one = tt
  dedent_token (u ∷ us) f b r held one =
      let same : l ++ following ≡ following = ap (λ v. v ++ following) (nil_from_length l f.0) in
      next_is (λ k. k ≡ kinds.Eof) (λ h. cc) g u us
      (only_end m t u.kind (length u.lexeme) o.clear b (o.levels ∙ one) following (subst (Closing m) same (f.2 b).0) (ap (closes_levels m.line_start) (sym same) ∙ o.held held b) r.2)

  token_known : (k : TokenKind) (ts : List Tok) → TokenFact s.at m (l ++ following) k (length l) → Runs (mode_after k t m) following ts → BodyToken s k l (significant_from g ts)
  token_known kinds.Text ts f r = text_token ts f r
  token_known kinds.Eol ts f r = λ inner outer. not_first s.at (l ++ following) (f (inner_body m.in_body m.interpolation (o.body ∙ inner) (o.interpolation ∙ outer))).1
  token_known kinds.Dedent ts f r = λ inner.
      let b : InBody m = inner_body m.in_body m.interpolation (o.body ∙ inner) (ap is_some f.1) in
      ((f.2 b).1, dedent_token ts f b r)
  token_known _ ts f r = tt

body_sound : (ts : List Tok) (m : Mode) (rest : List ℕ) (s : Situation) (glued : Bool) → IsSituation m rest s → Runs m rest ts → BodySound s (significant_from glued ts)
body_sound [] m rest s glued o r = tt
body_sound (t ∷ ts) m rest s glued o r = by (is_whitespace t.kind) refl (λ s' g' o'. body_sound ts (mode_after t.kind t m) following s' g' o' r.3)
  where
    following : List ℕ
    following = r.0

    here : IsSituation m (t.lexeme ++ following) s
    here = subst (λ q. IsSituation m q s) r.1 o

    fact : TokenFact s.at m (t.lexeme ++ following) t.kind (length t.lexeme)
    fact = token_fact s.at m (t.lexeme ++ following) t.kind (length t.lexeme) here.clear here.ready (sym (ap (next m) r.1) ∙ r.2)

    moved : IsSituation (mode_after t.kind t m) following (situation_after t.kind t.lexeme s)
    moved = situation_step m t.lexeme following t.kind t s refl fact here

    by : (w : Bool) → is_whitespace t.kind ≡ w → ((s' : Situation) (g' : Bool) → IsSituation (mode_after t.kind t m) following s' → BodySound s' (significant_from g' ts))
        → BodySound s (cond w (significant_from false ts) (record { tok = t; glued = glued } ∷ significant_from true ts))
    by true e ih = ih s false (subst (λ k. IsSituation (mode_after t.kind t m) following (situation_after k t.lexeme s)) (whitespace_kind t.kind e) moved)
    by false e ih = (token_known m t.lexeme following t s true here t.kind ts fact r.3, ih (situation_after t.kind t.lexeme s) true moved)

-- the bodies of any text have these properties
pub lexed_bodies : (text : List ℕ) (tokens : List Tok) → Lexed text tokens → BodySound no_body (significant_from false tokens)
lexed_bodies text tokens l =
    let order : reverse l.earlier ++ (l.last ∷ []) ≡ tokens = sym (sym (reverse-reverse tokens) ∙ ap reverse l.are ∙ reverse-append (l.last ∷ []) l.earlier) in
    let runs = runs_from text l.earlier (l.last ∷ []) l.begins (runs_one text l.earlier l.last [] l.is_next tt) in
    body_sound tokens start_mode text no_body false (record { clear = (λ b. refl, λ b. cc); ready = tt; held = λ e. cc; colon = refl; body = refl; interpolation = refl; levels = refl }) (subst (Runs start_mode text) order runs)
