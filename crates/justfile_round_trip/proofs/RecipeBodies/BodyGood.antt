-- A body that is parsed from the tokens of a text is good, if no line of it ends in a carriage return.
use Rattle.std.proofs.Common.{◌≡◌, ℕ, suc, Bool, true, false, List, [], ◌∷◌, ◌⊎◌, inl, inr, refl, sym, ap, ◌∙◌, subst, ⊎_elim, arith}
use Rattle.std.specs.Prelude.{◌&&◌, ◌||◌}
use Rattle.std.specs.Str.{IsUtf8}
use Rattle.std.proofs.lemmas.Bool.{and_parts, not-true, or_right}
use Rattle.std.proofs.Math.Bool.{and-true, and-false, and_assoc}
use Rattle.justfile_vocabulary.specs.declared.token_kind.TokenKind.{TokenKind}
use Rattle.justfile_vocabulary.specs.declared.token_kind.TokenKind.TheVariants as kinds
use Rattle.justfile_model.specs.Lexing.SignificantTokens.{SignificantToken}
use Rattle.justfile_model.specs.Trees.Tree.{Text, Interpolation, Line, lexeme, nothing, line_before, trimmed}
use Rattle.justfile_model.specs.Grammars.Grammar as g
use Rattle.justfile_model.specs.Grammars.Expressions.{BelowLimit}
use Rattle.justfile_model.specs.Grammars.Files.{to_lexemes}
use Rattle.justfile_model.specs.Grammars.Grammar.{LineRest, BodyLines}
use Rattle.justfile_model.specs.Printed.Printing.{ends_in_return, printable_fragments, printable_body}
use Rattle.justfile_round_trip.proofs.Canon.{Shown, Fragment, ShapeLine}
use Rattle.justfile_round_trip.proofs.Good.{GoodExpression, GoodFragments, IsShown, IsFirst, GoodLines, GoodBody, pale, pale_line, all_pale, pale_after}
use Rattle.justfile_round_trip.proofs.Values.TokenFacts.{Around, Sound, around, outside}
use Rattle.justfile_round_trip.proofs.Values.WrittenValues.{good_expression, past, quiet, value_at}
use Rattle.justfile_round_trip.proofs.RecipeBodies.BodyTokens.{At, First, Start, Amid, NotFirst}
use Rattle.justfile_round_trip.proofs.RecipeBodies.BodyFacts.{TextKnown, LastKnown, Situation, situation_after, no_body, NextIs, BodyToken, BodySound}

abbrev pub Tokens : Type 0
Tokens = List SignificantToken

-- ---- the places of the tokens of a body

-- in a body, and in an interpolation of it
abbrev pub inner : At → Bool → Bool → Situation
inner w held colon = record { at = w; held = held; colon = colon; body = true; interpolation = false; levels = 1 }

abbrev pub interpolating : Bool → Situation
interpolating colon = record { at = Amid; held = false; colon = colon; body = true; interpolation = true; levels = 1 }

quiet_keeps : (k : TokenKind) (l : List ℕ) (colon : Bool) → quiet k ≡ true → situation_after k l (interpolating colon) ≡ interpolating colon
quiet_keeps kinds.Colon l colon h = cc
quiet_keeps _ l colon h = cc

-- an Indent after a colon, where no level is
pub indent_leads : (l : List ℕ) (s : Situation) → s.colon ≡ true → s.interpolation ≡ false → s.levels ≡ 0 → situation_after kinds.Indent l s ≡ inner First false true
indent_leads l s colon interpolation levels = λ i. record { at = First; held = false; colon = colon i; body = whole i; interpolation = interpolation i; levels = one i }
  where
    whole : (s.body || s.colon) ≡ true
    whole = or_right s.body s.colon colon

    one : (situation_after kinds.Indent l s).levels ≡ 1
    one = ap suc levels

-- ---- lines

-- the condition on the first fragment at this place
abbrev pub LineBegins : At → List Fragment → Type 0
LineBegins w [] = Unit {0}
LineBegins First (f ∷ fs) = IsFirst (f ∷ fs)
LineBegins Start (f ∷ fs) = IsShown (f ∷ fs)
LineBegins Amid (f ∷ fs) = Unit {0}

-- only after a fragment none may be left
abbrev InLine : At → List Fragment → Type 0
InLine Amid fs = Unit {0}
InLine _ [] = ⊥
InLine _ (f ∷ fs) = Unit {0}

-- outside bodies, before an item or in it
pub record IsOutside (s : Situation) : Type 0 where
  pub body : s.body ≡ false
  pub interpolation : s.interpolation ≡ false
  pub levels : s.levels ≡ 0

-- the tokens that begin or end a body or an interpolation
abbrev pub shifts : TokenKind → Bool
shifts kinds.Indent = true
shifts kinds.Dedent = true
shifts kinds.InterpolationStart = true
shifts kinds.InterpolationEnd = true
shifts _ = false

pub outside_after : (k : TokenKind) (l : List ℕ) (s : Situation) → shifts k ≡ false → IsOutside s → IsOutside (situation_after k l s)
outside_after kinds.Indent l s h o = cc
outside_after kinds.Dedent l s h o = cc
outside_after kinds.InterpolationStart l s h o = cc
outside_after kinds.InterpolationEnd l s h o = cc
outside_after _ l s h o = record { body = o.body; interpolation = o.interpolation; levels = o.levels }

pub outside_first : IsOutside no_body
outside_first = record { body = refl; interpolation = refl; levels = refl }

-- the tokens of a place with this property, and what is known of the bodies after it
pub record Walked (P : Situation → Type 0) (ts : Tokens) : Type 0 where
  pub situation : Situation
  pub is : P situation
  pub sound : BodySound situation ts

pub quiet_stays : (k : TokenKind) → quiet k ≡ true → shifts k ≡ false
quiet_stays kinds.Indent h = cc
quiet_stays _ h = cc

-- ---- lines that are left out

-- whether levels are held open after the lines
abbrev held_later : Bool → List ShapeLine → Bool
held_later held [] = held
held_later held (Line n [] ∷ ls) = held_later true ls
held_later held (Line n (f ∷ fs) ∷ ls) = held_later (held && pale_line (f ∷ fs)) ls

all_held : (ls : List ShapeLine) → all_pale (trimmed ls) ≡ true → held_later true ls ≡ true
all_held [] h = refl
all_held (Line n [] ∷ ls) h = all_held ls (by (trimmed ls) h)
  where
    by : (ls : List ShapeLine) → all_pale (line_before (Line n []) ls) ≡ true → all_pale ls ≡ true
    by [] h = refl
    by (l ∷ ls) h = h
all_held (Line n (f ∷ fs) ∷ ls) h =
    let parts = and_parts (pale_line (f ∷ fs)) (all_pale (trimmed ls)) h in
    ap (λ b. held_later b ls) parts.0 ∙ all_held ls parts.1

after_held : (ls : List ShapeLine) (held : Bool) → pale_after (trimmed ls) ≡ true → held_later held ls ≡ true
after_held [] held h = cc
after_held (Line n [] ∷ ls) held h = by (trimmed ls) h (all_held ls) (after_held ls true)
  where
    by : (ks : List ShapeLine) → pale_after (line_before (Line n []) ks) ≡ true → (all_pale ks ≡ true → held_later true ls ≡ true) → (pale_after ks ≡ true → held_later true ls ≡ true) → held_later true ls ≡ true
    by [] h all some = cc
    by (k ∷ ks) h all some = grind (arith, all, some)
after_held (Line n (f ∷ fs) ∷ ls) held h = after_held ls (held && pale_line (f ∷ fs)) h

sound_after : (s : Situation) (k : TokenKind) (t : SignificantToken) (rest : Tokens) → t.tok.kind ≡ k → BodySound s (t ∷ rest) → BodySound (situation_after k t.tok.lexeme s) rest
sound_after s k t rest e sound = subst (λ k. BodySound (situation_after k t.tok.lexeme s) rest) e sound.1

known_of : (s : Situation) (k : TokenKind) (t : SignificantToken) (rest : Tokens) → t.tok.kind ≡ k → BodySound s (t ∷ rest) → BodyToken s k t.tok.lexeme rest
known_of s k t rest e sound = subst (λ k. BodyToken s k t.tok.lexeme rest) e sound.0

printable_rest : (f : Fragment) (fs : List Fragment) → printable_fragments (f ∷ fs) ≡ true → printable_fragments fs ≡ true
printable_rest f [] p = refl
printable_rest (Text t) (k ∷ fs) p = p
printable_rest (Interpolation e) (k ∷ fs) p = p

module _ (limit : ℕ) where
  -- fragments and the line end after them, or fragments before the dedent
  abbrev pub LineOf : List Fragment → Shown → Tokens → Tokens → Type 0
  LineOf = LineRest lexeme nothing (BelowLimit limit)

  -- lines, and the dedent after them
  abbrev pub LinesOf : List ShapeLine → Shown → Tokens → Tokens → Type 0
  LinesOf = BodyLines to_lexemes (BelowLimit limit)

  -- a token in an interpolation
  step_inside : (colon : Bool) (k : TokenKind) (t : SignificantToken) (rest : Tokens) → t.tok.kind ≡ k → quiet k ≡ true → BodySound (interpolating colon) (t ∷ rest) → BodySound (interpolating colon) rest
  step_inside colon k t rest e q s = subst (λ o. BodySound o rest) (quiet_keeps k t.tok.lexeme colon q) (sound_after (interpolating colon) k t rest e s)

  trimmed_good : (ls : List ShapeLine) → GoodLines limit ls → GoodLines limit (trimmed ls)
  trimmed_good [] g = tt
  trimmed_good (Line n [] ∷ ls) g = by (trimmed ls) (trimmed_good ls g.2)
    where
      by : (ls : List ShapeLine) → GoodLines limit ls → GoodLines limit (line_before (Line n []) ls)
      by [] g = tt
      by (l ∷ ls) g = (tt, tt, g)
  trimmed_good (Line n (f ∷ fs) ∷ ls) g = (g.0, g.1, trimmed_good ls g.2)

  record LineGood (w : At) (held colon : Bool) (fs : List Fragment) (rest : Tokens) : Type 0 where
    good : GoodFragments limit fs
    begins : LineBegins w fs
    place : At
    stands : (place ≡ Start) ⊎ (NotFirst place × NextIs (λ k. k ≡ kinds.Dedent) rest)
    facts : Sound outside false rest
    sound : BodySound (inner place (held && pale_line fs) colon) rest

  -- a text, and the fragments after it on its line
  raw_good : {ns : Shown} (w : At) (l : List ℕ) (fs : List Fragment) (tokens rest : Tokens) → LineOf fs ns tokens rest → NextIs (TextKnown w l) tokens → GoodFragments limit fs → IsUtf8 l → printable_fragments (Text l ∷ fs) ≡ true → GoodFragments limit (Text l ∷ fs) × LineBegins w (Text l ∷ fs)
  raw_good w l [] tokens rest r known good u p = by r known
    where
      begins : (w : At) → LastKnown w l → LineBegins w (Text l ∷ [])
      begins First k = k.2
      begins Start k = k.1
      begins Amid k = tt

      last : LastKnown w l → GoodFragments limit (Text l ∷ []) × LineBegins w (Text l ∷ [])
      last k = ((k.0 (not-true (ends_in_return l) p), u), begins w k)

      by : {ns : Shown} {tokens rest : Tokens} → LineOf [] ns tokens rest → NextIs (TextKnown w l) tokens → GoodFragments limit (Text l ∷ []) × LineBegins w (Text l ∷ [])
      by (g.line_ends e) known = last (subst (TextKnown w l) e known)
      by (g.body_ends e) known = last (subst (TextKnown w l) e known)
  raw_good w l (Text k ∷ fs) tokens rest r known good u p = absurd (by r known)
    where
      by : {ns : Shown} {k : List ℕ} {fs : List Fragment} {tokens rest : Tokens} → LineOf (Text k ∷ fs) ns tokens rest → NextIs (TextKnown w l) tokens → ⊥
      by (g.text e r) known = subst (TextKnown w l) e known
  raw_good w l (Interpolation e ∷ fs) tokens rest r known good u p = by r known
    where
      begins : (w : At) → TextKnown w l kinds.InterpolationStart → LineBegins w (Text l ∷ Interpolation e ∷ fs)
      begins First k = k.1
      begins Start k = tt
      begins Amid k = tt

      by : {ns : Shown} {tokens rest : Tokens} → LineOf (Interpolation e ∷ fs) ns tokens rest → NextIs (TextKnown w l) tokens → GoodFragments limit (Text l ∷ Interpolation e ∷ fs) × LineBegins w (Text l ∷ Interpolation e ∷ fs)
      by (g.interpolation e' reads e'' r) known = let k = subst (TextKnown w l) e' known in ((k.0, u, good), begins w k)

  line_good : {ns : Shown} (w : At) (held colon : Bool) {fs : List Fragment} {tokens rest : Tokens} → InLine w fs → LineOf fs ns tokens rest → Sound outside false tokens → BodySound (inner w held colon) tokens → printable_fragments fs ≡ true → LineGood w held colon fs rest
  line_good Amid held colon i (g.line_ends {token = t} {rest} e) h s p =
      record { good = tt; begins = tt; place = Start; stands = inl refl; facts = past outside t rest kinds.Eol e h.2; sound = subst (λ h. BodySound (inner Start h colon) rest) (sym (and-true held)) (sound_after (inner Amid held colon) kinds.Eol t rest e s) }
  line_good Amid held colon i (g.body_ends {token = t} {rest} e) h s p =
      record { good = tt; begins = tt; place = Amid; stands = inr (tt, e); facts = h; sound = subst (λ h. BodySound (inner Amid h colon) (t ∷ rest)) (sym (and-true held)) s }
  line_good _ held colon i (g.line_ends e) h s p = absurd i
  line_good _ held colon i (g.body_ends e) h s p = absurd i
  line_good w held colon {fs} {tokens} {rest} i (g.text {token = t} {tokens = mid} e r) h s p =
      following r p (line_good Amid (held && pale t.tok.lexeme) colon tt r (past outside t mid kinds.Text e h.2) (sound_after (inner w held colon) kinds.Text t mid e s))
    where
      following : {ns : Shown} {gs : List Fragment} → LineOf gs ns mid rest → printable_fragments (Text t.tok.lexeme ∷ gs) ≡ true → (printable_fragments gs ≡ true → LineGood Amid (held && pale t.tok.lexeme) colon gs rest) → LineGood w held colon (Text t.tok.lexeme ∷ gs) rest
      following {gs} r p more =
          let m = more (printable_rest (Text t.tok.lexeme) gs p) in
          let front = raw_good w t.tok.lexeme gs mid rest r (known_of (inner w held colon) kinds.Text t mid e s) m.good h.0.utf8 p in
          record { good = front.0; begins = front.1; place = m.place; stands = m.stands; facts = m.facts; sound = subst (λ h. BodySound (inner m.place h colon) rest) (and_assoc held (pale t.tok.lexeme) (pale_line gs)) m.sound }
  line_good w held colon {fs} {tokens} {rest} i (g.interpolation {e} {start} {end = stop} {tokens = inside} {others = mid} e' reads e'' r) h s p =
      let opened : Around = around kinds.InterpolationStart [] outside in
      let value = value_at (BelowLimit limit) (BodySound (interpolating colon)) (step_inside colon) reads opened (record {
        facts = past outside start inside kinds.InterpolationStart e' h.2;
        bodies = sound_after (inner w held colon) kinds.InterpolationStart start inside e' s;
      }) in
      following r p (good_expression limit reads value.good) (line_good Amid false colon tt r (past opened stop mid kinds.InterpolationEnd e'' value.following.facts.2) (sound_after (interpolating colon) kinds.InterpolationEnd stop mid e'' value.following.bodies))
    where
      begins : (w : At) (gs : List Fragment) → LineBegins w (Interpolation e ∷ gs)
      begins First gs = tt
      begins _ gs = tt

      following : {ns : Shown} {gs : List Fragment} → LineOf gs ns mid rest → printable_fragments (Interpolation e ∷ gs) ≡ true → GoodExpression limit e → (printable_fragments gs ≡ true → LineGood Amid false colon gs rest) → LineGood w held colon (Interpolation e ∷ gs) rest
      following {gs} r p v more =
          let m = more (printable_rest (Interpolation e) gs p) in
          record { good = (v, m.good); begins = begins w gs; place = m.place; stands = m.stands; facts = m.facts; sound = subst (λ h. BodySound (inner m.place h colon) rest) (sym (and-false held)) m.sound }

  -- ---- lines up to the dedent

  record LinesGood (held : Bool) (ls : List ShapeLine) (rest : Tokens) : Type 0 where
    good : GoodLines limit ls
    last : held_later held ls ≡ true → NextIs (λ k. k ≡ kinds.Eof) rest
    facts : Sound outside false rest
    sound : BodySound no_body rest

  closed_good : (w : At) (held colon : Bool) (t : SignificantToken) (rest : Tokens) → NotFirst w → t.tok.kind ≡ kinds.Dedent → Sound outside false (t ∷ rest) → BodySound (inner w held colon) (t ∷ rest) → LinesGood held [] rest
  closed_good w held colon t rest later e h s = record {
    good = tt;
    last = λ h. (known_of (inner w held colon) kinds.Dedent t rest e s refl).1 h refl;
    facts = past outside t rest kinds.Dedent e h.2;
    sound = sound_after (inner w held colon) kinds.Dedent t rest e s;
  }

  -- a dedent doesn't begin a line
  dedent_good : {ns : Shown} (w : At) (held colon : Bool) {ls : List ShapeLine} {tokens rest : Tokens} → NotFirst w → NextIs (λ k. k ≡ kinds.Dedent) tokens → LinesOf ls ns tokens rest → Sound outside false tokens → BodySound (inner w held colon) tokens → LinesGood held ls rest
  dedent_good w held colon later d (g.no_line {token = t} {rest} e) h s = closed_good w held colon t rest later e h s
  dedent_good w held colon later d (g.empty_line e r) h s = let bad : kinds.Eol ≡ kinds.Dedent = sym e ∙ d in cc
  dedent_good w held colon later d (g.some_line (g.text e l) r) h s = let bad : kinds.Text ≡ kinds.Dedent = sym e ∙ d in cc
  dedent_good w held colon later d (g.some_line (g.interpolation e reads e' l) r) h s = let bad : kinds.InterpolationStart ≡ kinds.Dedent = sym e ∙ d in cc

  lines_good : {ns : Shown} (held colon : Bool) {ls : List ShapeLine} {tokens rest : Tokens} → LinesOf ls ns tokens rest → Sound outside false tokens → BodySound (inner Start held colon) tokens → printable_body ls ≡ true → LinesGood held ls rest
  lines_good held colon (g.no_line {token = t} {rest} e) h s p = closed_good Start held colon t rest tt e h s
  lines_good held colon (g.empty_line {lines = ls} {token = t} {tokens} e r) h s p =
      let m = lines_good true colon r (past outside t tokens kinds.Eol e h.2) (sound_after (inner Start held colon) kinds.Eol t tokens e s) p in
      record { good = (tt, tt, m.good); last = m.last; facts = m.facts; sound = m.sound }
  lines_good held colon {tokens} {rest} (g.some_line {f} {fragments = fs} {lines = ls} {between = mid} l r) h s p =
      following (line_good Start held colon tt l h s parts.0) (λ b. lines_good b colon r)
    where
      parts : (printable_fragments (f ∷ fs) ≡ true) × (printable_body ls ≡ true)
      parts = and_parts (printable_fragments (f ∷ fs)) (printable_body ls) p

      following : LineGood Start held colon (f ∷ fs) mid → ((b : Bool) → Sound outside false mid → BodySound (inner Start b colon) mid → printable_body ls ≡ true → LinesGood b ls rest) → LinesGood held (Line tt (f ∷ fs) ∷ ls) rest
      following m ih =
          let b : Bool = held && pale_line (f ∷ fs) in
          let k : LinesGood b ls rest = ⊎_elim (λ at. ih b m.facts (subst (λ w. BodySound (inner w b colon) mid) at m.sound) parts.1) (λ d. dedent_good m.place b colon d.0 d.1 r m.facts m.sound) m.stands in
          record { good = (m.good, m.begins, k.good); last = k.last; facts = k.facts; sound = k.sound }

  -- A body that was read has good lines, and where its last lines hold levels open it is the last item of the file.
  pub record BodyRead (ls : List ShapeLine) (rest : Tokens) : Type 0 where
    pub good : GoodBody limit (trimmed ls)
    pub last : pale_after (trimmed ls) ≡ true → NextIs (λ k. k ≡ kinds.Eof) rest
    pub facts : Sound outside false rest
    pub sound : BodySound no_body rest

  -- from the token after the Indent on
  pub body_read : {ns : Shown} (colon : Bool) {ls : List ShapeLine} {tokens rest : Tokens} → LinesOf ls ns tokens rest → Sound outside false tokens → BodySound (inner First false colon) tokens → printable_body ls ≡ true → BodyRead ls rest
  body_read colon (g.no_line {token = t} {rest} e) h s p = absurd ((known_of (inner First false colon) kinds.Dedent t rest e s refl).0)
  body_read colon (g.empty_line {lines = ls} {token = t} {tokens} e r) h s p = absurd (known_of (inner First false colon) kinds.Eol t tokens e s refl refl)
  body_read colon {tokens} {rest} (g.some_line {f} {fragments = fs} {lines = ls} {between = mid} l r) h s p =
      let parts = and_parts (printable_fragments (f ∷ fs)) (printable_body ls) p in
      let m = line_good First false colon tt l h s parts.0 in
      let k : LinesGood false ls rest = ⊎_elim (λ at. lines_good false colon r m.facts (subst (λ w. BodySound (inner w false colon) mid) at m.sound) parts.1) (λ d. dedent_good m.place false colon d.0 d.1 r m.facts m.sound) m.stands in
      record { good = (m.begins, m.good, trimmed_good ls k.good); last = λ h. k.last (after_held ls false h); facts = k.facts; sound = k.sound }
