-- Levels close before a blank line exactly if the longest run of white bytes ends in a line feed, and a byte follows it.
use Rattle.std.proofs.Common.{zero, suc, ◌≡◌, ◌≢◌, ℕ, ◌<◌, ◌≤◌, Bool, true, false, cond, eqb, List, [], ◌∷◌, ◌++◌, ◌⊎◌, inl, inr, length, take, drop, get_or, Option, Some, None, Ok, Err, refl, sym, ap, subst, ◌∙◌, arith}
use Rattle.std.specs.Prelude.{◌↔◌, ◌||◌, ◌&&◌, is_some, not}
use Rattle.std.specs.List.{AllPass}
use Rattle.std.proofs.lemmas.Bool.Decides.{nat_tests}
use Rattle.std.proofs.lemmas.List.Elements.{All-cons, All-head, All-nil, All-push, All-tail}
use Rattle.std.proofs.lemmas.List.{append_assoc, drop_at, length-append, length-drop, take_at}
use Rattle.justfile_vocabulary.specs.ByteClass.{class_of}
use Rattle.justfile_model.specs.Lexing.BlankLines.{BeginsWithBlankLine, BeginsWithWhiteLines, IsAtLineStart, LevelsClose, is_blank_or_line_end}
use Rattle.justfile_vocabulary.specs.Indentation.{is_space_or_tab}
use Rattle.justfile_vocabulary.specs.declared.token_kind.TokenKind.TheVariants as kinds
use Rattle.justfile_vocabulary.specs.declared.token_kind.TokenKind.{TokenKind}
use Rattle.justfile_model.specs.Lexing.Bytes.{blank_len, closes_levels, is_blank, is_line_end, line_feed, white}
use Rattle.justfile_model.specs.declared.raw_text.RawText.TheVariants as raw_texts
use Rattle.justfile_model.specs.Lexing.LiteralText.{raw_len}
use Rattle.justfile_model.specs.Lexing.Modes.{Mode, mode, tail_of, is_empty, nested}
use Rattle.justfile_model.specs.Lexing.Next.{NextToken, at_line_start, blanks_or, body_token, token_by_class, token_within_line, begins_blank_line, layout, line_end_token, next, token_outside_text, region_by, text_or, token_in_region}
use Rattle.justfile_model.specs.Lexing.Lexed.{Begins, end_of, next_of}
use Rattle.justfile_model.specs.Lexing.Tok.{Tok}
use Rattle.justfile_model.proofs.Lexing.AnswerLaws.{at, next_at}
use Rattle.justfile_model.proofs.Lexing.CutLemmas.{eq_from, is_class, is_line_feed}

-- ---- the longest run of white bytes

-- a byte that is not white, after a line feed
record StopsAfterFeed (last : Bool) (bs : List ℕ) : Type 0 where
  feed : last ≡ true
  next : ℕ
  follows : List ℕ
  are : bs ≡ next ∷ follows
  run_ends : is_blank_or_line_end next ≡ false

feed_is : (b : ℕ) → line_feed (class_of b) ≡ true → b ≡ 10
feed_is b h = eq_from b 10 (is_line_feed b (class_of b) refl ∙ h)

white_lines : (last : Bool) (bs : List ℕ) → closes_levels last bs ≡ true → StopsAfterFeed last bs ⊎ BeginsWithWhiteLines bs
unfolding closes_levels
white_lines last [] h = cc
white_lines last (b ∷ bs) h = by (white (class_of b)) refl h (white_lines (line_feed (class_of b)) bs)
  where
    pushed : is_blank_or_line_end b ≡ true → StopsAfterFeed (line_feed (class_of b)) bs ⊎ BeginsWithWhiteLines bs → BeginsWithWhiteLines (b ∷ bs)
    pushed w (inl s) = record { run = []; next = s.next; follows = s.follows; are = (λ i. feed_is b s.feed i ∷ s.are i); is_run = All-nil (λ b. is_blank_or_line_end b ≡ true); run_ends = s.run_ends }
    pushed w (inr l) = record { run = b ∷ l.run; next = l.next; follows = l.follows; are = ap (λ bs. b ∷ bs) l.are; is_run = All-cons (λ b. is_blank_or_line_end b ≡ true) b l.run w l.is_run; run_ends = l.run_ends }

    by : (w : Bool) → white (class_of b) ≡ w → cond w (closes_levels (line_feed (class_of b)) bs) last ≡ true → (closes_levels (line_feed (class_of b)) bs ≡ true → StopsAfterFeed (line_feed (class_of b)) bs ⊎ BeginsWithWhiteLines bs) → StopsAfterFeed last (b ∷ bs) ⊎ BeginsWithWhiteLines (b ∷ bs)
    by true w h more = inr (pushed ((is_class b).is_white ∙ w) (more h))
    by false w h more = inl (record { feed = h; next = b; follows = bs; are = refl; run_ends = (is_class b).is_white ∙ w })

closes_by : (run : List ℕ) → AllPass is_blank_or_line_end run → (next : ℕ) (follows : List ℕ) → is_blank_or_line_end next ≡ false → (last : Bool) → closes_levels last (run ++ (10 ∷ (next ∷ follows))) ≡ true
unfolding closes_levels class_of
closes_by [] all next follows stops last = let no_white : white (class_of next) ≡ false = sym (is_class next).is_white ∙ stops in rw no_white refl
closes_by (b ∷ run) all next follows stops last =
    let is_white' : white (class_of b) ≡ true = sym (is_class b).is_white ∙ All-head (λ b. is_blank_or_line_end b ≡ true) b run all in
    rw is_white' (closes_by run (All-tail (λ b. is_blank_or_line_end b ≡ true) b run all) next follows stops (line_feed (class_of b)))

closes_law : (text : List ℕ) → (closes_levels false text ≡ true) ↔ BeginsWithWhiteLines text
closes_law text = (λ h. by (white_lines false text h), λ l. ap (closes_levels false) l.are ∙ closes_by l.run l.is_run l.next l.follows l.run_ends false)
  where
    by : StopsAfterFeed false text ⊎ BeginsWithWhiteLines text → BeginsWithWhiteLines text
    by (inl s) = let never = s.feed in cc
    by (inr l) = l

-- ---- a blank line at column 0

-- how many blanks come first
line_end_first : (follows : List ℕ) → is_line_end follows ≡ true → blank_len follows ≡ 0
line_end_first [] h = refl
line_end_first (b ∷ bs) h = let other : is_blank b ≡ false = sym (is_class b).is_blank ∙ no_blank b (get_or bs 0 0) h in rw other refl
  where
    no_blank : (b c : ℕ) → (eqb b 10 || eqb b 13 && eqb c 10) ≡ true → is_space_or_tab b ≡ false
    no_blank b c h = grind (arith, nat_tests)

blanks_first : (blanks follows : List ℕ) → AllPass is_space_or_tab blanks → blank_len follows ≡ 0 → blank_len (blanks ++ follows) ≡ length blanks
blanks_first [] follows all none = none
blanks_first (b ∷ bs) follows all none =
    let first : is_blank b ≡ true = sym (is_class b).is_blank ∙ All-head (λ b. is_space_or_tab b ≡ true) b bs all in
    rw first (omega (arith, blanks_first bs follows (All-tail (λ b. is_space_or_tab b ≡ true) b bs all) none))

-- at a line end no other token is a dedent
abbrev OtherBy : NextToken → Type 0
OtherBy (Ok x) = x.0 ≢ kinds.Dedent
OtherBy (Err r) = Unit {0}

record Other (found : NextToken) : Type 0 where
  other : OtherBy found

other_if : (b : Bool) (x y : NextToken) → Other x → Other y → Other (cond b x y)
other_if true x y f g = f
other_if false x y f g = g

token : (k : TokenKind) (n : ℕ) → k ≢ kinds.Dedent → Other (Ok (k, n))
token k n h = record { other = h }

text_other : (n b : ℕ) → Other (text_or n b)
text_other (suc n) b = token _ _ (λ e. cc)
text_other zero b = other_if (eqb b 10) _ _ (token _ _ (λ e. cc)) (other_if (eqb b 13) _ _ (token _ _ (λ e. cc)) (token _ _ (λ e. cc)))

line_end_other : (m : Mode) (n : ℕ) → Other (line_end_token m n)
line_end_other m n = other_if (nested m) _ _ (token _ _ (λ e. cc)) (token _ _ (λ e. cc))

normal_other : (m : Mode) (rest : List ℕ) → is_line_end rest ≡ true → Other (token_outside_text m rest)
unfolding token_by_class class_of
normal_other m [] h = cc
normal_other m (b ∷ bs) h = by (eqb b 10) refl
  where
    return : (b c : ℕ) → (eqb b 10 || eqb b 13 && eqb c 10) ≡ true → eqb b 10 ≡ false → eqb b 13 ≡ true
    return b c h e = grind (arith, nat_tests)

    by : (s : Bool) → eqb b 10 ≡ s → Other (token_outside_text m (b ∷ bs))
    by true is = subst (λ b. Other (token_outside_text m (b ∷ bs))) (sym (eq_from b 10 is)) (line_end_other m 1)
    by false is = subst (λ b. Other (token_outside_text m (b ∷ bs))) (sym (eq_from b 13 (return b (get_or bs 0 0) h is))) (other_if (eqb (get_or bs 0 0) 10) _ _ (line_end_other m 2) (record { other = tt }))

inside_other : (m : Mode) (rest : List ℕ) → is_line_end rest ≡ true → m.interpolation ≡ None → Other (token_within_line m rest)
unfolding token_within_line body_token
inside_other m rest h none = by m.in_body m.interpolation none
  where
    by : (b : Bool) (o : Option Tok) → o ≡ None → Other (token_in_region (region_by b o) m rest)
    by b (Some t) none = cc
    by true None none = text_other (raw_len raw_texts.Body rest) (get_or rest 0 0)
    by false None none = normal_other m rest h

no_dedent : (found : NextToken) → Other found → found ≡ Ok (kinds.Dedent, 0) → ⊥
no_dedent found o e = (subst Other e o).other refl

-- blanks, and then a line end or the end of the text
blanks_other : (m : Mode) (blanks follows : List ℕ) → blanks ++ follows ≢ [] → (is_line_end follows ≡ true) ⊎ (follows ≡ []) → m.interpolation ≡ None → Other (blanks_or (length blanks) m (blanks ++ follows))
blanks_other m (b ∷ bs) follows some ends none = token _ _ (λ e. cc)
blanks_other m [] follows some (inl ends) none = inside_other m follows ends none
blanks_other m [] follows some (inr nil) none = absurd (some nil)

next_is : (m : Mode) (rest : List ℕ) → rest ≢ [] → m.line_start ≡ true → next m rest ≡ at_line_start m rest
unfolding next
next_is m [] some h = absurd (some refl)
next_is m (b ∷ bs) some h = rw h refl

-- Where a line starts, no delimiter and no interpolation is open, and a level is.
module _ (m : Mode) (place : IsAtLineStart m) (levels : m.levels ≢ []) where
  not_nested : nested m ≡ false
  not_nested = (λ i. not (is_empty (place.no_delimiter i)) || is_some (place.no_interpolation i))

  some_level : is_empty m.levels ≡ false
  some_level = by m.levels levels
    where
      by : (ls : List (List ℕ)) → ls ≢ [] → is_empty ls ≡ false
      by [] some = absurd (some refl)
      by (l ∷ ls) some = refl

  layout_is : (found follows rest : List ℕ) → begins_blank_line follows ≡ true → layout m found follows rest ≡ cond (closes_levels false rest) (Ok (kinds.Dedent, 0)) (blanks_or (length found) m rest)
  unfolding layout
  layout_is found follows rest ends = rw (not_nested, ends, some_level) refl

  blank_line_is : (follows : List ℕ) → (is_line_end follows ≡ true) ⊎ (follows ≡ []) → begins_blank_line follows ≡ true
  blank_line_is follows (inl ends) = ap (λ b. b || is_empty follows) ends
  blank_line_is follows (inr nil) = subst (λ follows. begins_blank_line follows ≡ true) (sym nil) refl

  blanks_len : (blanks follows : List ℕ) → AllPass is_space_or_tab blanks → (is_line_end follows ≡ true) ⊎ (follows ≡ []) → blank_len (blanks ++ follows) ≡ length blanks
  blanks_len blanks follows all (inl ends) = blanks_first blanks follows all (line_end_first follows ends)
  blanks_len blanks follows all (inr nil) = blanks_first blanks follows all (ap blank_len nil)

  found_is : (blanks follows : List ℕ) → AllPass is_space_or_tab blanks → (is_line_end follows ≡ true) ⊎ (follows ≡ []) → blanks ++ follows ≢ []
      → next m (blanks ++ follows) ≡ cond (closes_levels false (blanks ++ follows)) (Ok (kinds.Dedent, 0)) (blanks_or (length blanks) m (blanks ++ follows))
  found_is blanks follows all ends some =
      let len = blanks_len blanks follows all ends in
      next_is m (blanks ++ follows) some place.line_start
      ∙ (λ i. layout m (take (len i) (blanks ++ follows)) (drop (len i) (blanks ++ follows)) (blanks ++ follows))
      ∙ (λ i. layout m (take_at blanks follows (length blanks) refl i) (drop_at blanks follows (length blanks) refl i) (blanks ++ follows))
      ∙ layout_is blanks follows (blanks ++ follows) (blank_line_is follows ends)

  dedent_is : (blanks follows : List ℕ) → AllPass is_space_or_tab blanks → (is_line_end follows ≡ true) ⊎ (follows ≡ []) → blanks ++ follows ≢ [] → (next m (blanks ++ follows) ≡ Ok (kinds.Dedent, 0)) ↔ (closes_levels false (blanks ++ follows) ≡ true)
  dedent_is blanks follows all ends some = (λ e. by (closes_levels false text) refl (sym found ∙ e), λ h. found ∙ ap (λ b. cond b (Ok (kinds.Dedent, 0)) (blanks_or (length blanks) m text)) h)
    where
      text : List ℕ
      text = blanks ++ follows

      found : next m text ≡ cond (closes_levels false text) (Ok (kinds.Dedent, 0)) (blanks_or (length blanks) m text)
      found = found_is blanks follows all ends some

      by : (b : Bool) → closes_levels false text ≡ b → cond b (Ok (kinds.Dedent, 0)) (blanks_or (length blanks) m text) ≡ Ok (kinds.Dedent, 0) → closes_levels false text ≡ true
      by true h e = h
      by false h e = absurd (no_dedent _ (blanks_other m blanks follows some ends place.no_interpolation) e)

  pub dedent_law : (text : List ℕ) → text ≢ [] → BeginsWithBlankLine text → (next m text ≡ Ok (kinds.Dedent, 0)) ↔ BeginsWithWhiteLines text
  dedent_law text some line =
      let at : (next m text ≡ Ok (kinds.Dedent, 0)) ↔ (closes_levels false text ≡ true) = subst (λ text. (next m text ≡ Ok (kinds.Dedent, 0)) ↔ (closes_levels false text ≡ true)) (sym line.are) (dedent_is line.blanks line.follows line.are_blanks line.ends (λ nil. some (line.are ∙ nil))) in
      (λ e. (closes_law text).0 (at.0 e), λ l. at.1 ((closes_law text).1 l))

-- a dedent without bytes comes next, and all stays but the level that it closes
dedent_next : (text : List ℕ) (e : List Tok) → Begins text e → end_of e ≤ length text → next_of text e ≡ Ok (kinds.Dedent, 0) → Begins text (at text kinds.Dedent (end_of e) 0 ∷ e)
unfolding at
dedent_next text e b l found = (b, next_at text e kinds.Dedent 0 (omega (arith, l)) found, λ e. cc)

same_end : (text : List ℕ) (e : List Tok) → end_of (at text kinds.Dedent (end_of e) 0 ∷ e) ≡ end_of e
unfolding at
same_end text e = omega arith

same_place : (text : List ℕ) (e : List Tok) → IsAtLineStart (mode e) → IsAtLineStart (mode (at text kinds.Dedent (end_of e) 0 ∷ e))
unfolding at
same_place text e place = record { line_start = place.line_start; no_delimiter = place.no_delimiter; no_interpolation = place.no_interpolation }

fewer_levels : (text : List ℕ) (e : List Tok) → (mode (at text kinds.Dedent (end_of e) 0 ∷ e)).levels ≡ tail_of (mode e).levels
unfolding at
fewer_levels text e = refl

is_dedent : (text : List ℕ) (e : List Tok) → (at text kinds.Dedent (end_of e) 0).kind ≡ kinds.Dedent
unfolding at
is_dedent text e = refl

text_left : (text : List ℕ) (n : ℕ) → BeginsWithWhiteLines (drop n text) → n < length text
text_left text n w = omega (arith, ap length w.are, length-append w.run (10 ∷ (w.next ∷ w.follows)), length-drop n text)

abbrev IsDedent : Tok → Type 0
IsDedent t = t.kind ≡ kinds.Dedent

-- all of them close
levels_close : (text : List ℕ) (ls : List (List ℕ)) (e : List Tok) → (mode e).levels ≡ ls → Begins text e → IsAtLineStart (mode e) → BeginsWithBlankLine (drop (end_of e) text) → BeginsWithWhiteLines (drop (end_of e) text) → LevelsClose text e
levels_close text [] e is b place line w = record { dedents = []; are_dedents = All-nil IsDedent; begins = b; none_open = is }
levels_close text (l ∷ ls) e is b place line w = by (levels_close text ls (t ∷ e) (fewer_levels text e ∙ ap tail_of is) (dedent_next text e b (omega (arith, left)) found) (same_place text e place) (subst (λ n. BeginsWithBlankLine (drop n text)) (sym (same_end text e)) line) (subst (λ n. BeginsWithWhiteLines (drop n text)) (sym (same_end text e)) w))
  where
    t : Tok
    t = at text kinds.Dedent (end_of e) 0

    left : end_of e < length text
    left = text_left text (end_of e) w

    found : next_of text e ≡ Ok (kinds.Dedent, 0)
    found = (dedent_law (mode e) place (λ none. cc) (drop (end_of e) text) (λ nil. absurd (omega (arith, left, ap length nil, length-drop (end_of e) text))) line).1 w

    by : LevelsClose text (t ∷ e) → LevelsClose text e
    by more =
        let moved : (more.dedents ++ (t ∷ [])) ++ e ≡ more.dedents ++ (t ∷ e) = append_assoc more.dedents (t ∷ []) e in
        record {
          dedents = more.dedents ++ (t ∷ []);
          are_dedents = All-push IsDedent more.dedents t more.are_dedents (is_dedent text e);
          begins = subst (Begins text) (sym moved) more.begins;
          none_open = subst (λ e. (mode e).levels ≡ []) (sym moved) more.none_open;
        }

pub close_law : (text : List ℕ) (e : List Tok) → Begins text e → IsAtLineStart (mode e) → BeginsWithBlankLine (drop (end_of e) text) → BeginsWithWhiteLines (drop (end_of e) text) → LevelsClose text e
close_law text e b place line w = levels_close text (mode e).levels e refl b place line w
