-- In the tokens of any text, each significant token has its properties, and no comment follows another one on its line.
use Rattle.std.proofs.Common.{◌≡◌, ◌≢◌, ℕ, ◌+◌, Bool, true, false, cond, eqb, List, [], ◌∷◌, ◌++◌, length, get_or, take, drop, Option, Some, None, Ok, Err, refl, sym, ap, ◌∙◌, subst, arith, append_assoc, take-append-drop, codes}
use Rattle.std.specs.Prelude.{◌&&◌, ◌||◌, not, is_some, reverse}
use Rattle.std.specs.Str.{IsUtf8, IsCharBoundary, bytes_eq}
use Rattle.std.proofs.lemmas.Bool.{and_parts}
use Rattle.std.proofs.lemmas.Bool.Decides.{nat_tests}
use Rattle.std.proofs.lemmas.List.{reverse-append, reverse-reverse}
use Rattle.std.proofs.lemmas.Str.{IsUtf8-take, IsUtf8-drop}
use Rattle.std.proofs.Math.Bool.{or-false}
use Rattle.justfile_vocabulary.specs.declared.token_kind.TokenKind.{TokenKind}
use Rattle.justfile_vocabulary.specs.declared.token_kind.TokenKind.TheVariants as kinds
use Rattle.justfile_token.specs.declared.string_kind.StringKind.{StringKind}
use Rattle.justfile_vocabulary.specs.ByteClass.{class_of}
use Rattle.justfile_token.specs.StringKind.{kind_of}
use Rattle.justfile_token.specs.Slice.{slice_of}
use Rattle.justfile_model.specs.declared.open_delimiter.OpenDelimiter.{OpenDelimiter}
use Rattle.justfile_model.specs.Lexing.Bytes.{is_line_end, is_interpolation_end}
use Rattle.justfile_model.specs.Lexing.LiteralText.{pieces_len}
use Rattle.justfile_model.specs.Lexing.Tok.{Tok}
use Rattle.justfile_model.specs.Lexing.SignificantTokens.{SignificantToken, is_whitespace, significant_from}
use Rattle.justfile_model.specs.Lexing.Modes.{Mode, mode, start_mode, mode_after, is_empty, tail_of, head_of, nested}
use Rattle.justfile_model.specs.Lexing.Lexed.{end_of, IsNext, Begins, Lexed}
use Rattle.justfile_model.specs.Lexing.Next.{NextToken, format_string_kind, format_kind, token_by_class, token_within_line, body_token, line_end_token, Region, InText, InInterpolation, OutsideText, token_in_region, at_end_by, begins_blank_line, next_by, next}
use Rattle.justfile_model.proofs.Lexing.NextLaws.{token_cut}
use Rattle.justfile_round_trip.proofs.LiteralTexts.LexedModes.{take_front, drop_front, drop_drop}
use Rattle.justfile_round_trip.proofs.LiteralTexts.Inline.{IsName}
use Rattle.justfile_round_trip.proofs.Good.{IsString, IsCommand, IsFormatLiteral, IsFormatStart, IsPartOfOpen}
use Rattle.justfile_round_trip.proofs.LiteralTexts.Literals.{front_byte}
use Rattle.justfile_round_trip.proofs.Facts.{WasComment, Fact, fact_of}

-- ---- where a line ends

abbrev EndsBy : Mode → NextToken → Type 0
EndsBy m (Ok x) = (x.0 ≢ kinds.Comment) × (x.0 ≡ kinds.Whitespace → nested m ≡ true)
EndsBy m (Err r) = Unit {0}

record EndsLine (m : Mode) (found : NextToken) : Type 0 where
  ends : EndsBy m found

line_end_ends : (m : Mode) (n : ℕ) → EndsLine m (line_end_token m n)
line_end_ends m n = by (nested m) refl
  where
    by : (b : Bool) → nested m ≡ b → EndsLine m (cond b (Ok (kinds.Whitespace, n)) (Ok (kinds.Eol, n)))
    by true e = record { ends = (λ h. cc, λ h. e) }
    by false e = record { ends = (λ h. cc, λ h. cc) }

interpolation_ends : (m : Mode) (b : Bool) {found : NextToken} → EndsLine m found → EndsLine m (cond b (Ok (kinds.InterpolationEnd, 2)) found)
interpolation_ends m true h = record { ends = (λ e. cc, λ e. cc) }
interpolation_ends m false h = h

feed_ends : (m : Mode) (bs : List ℕ) (p : Region) → EndsLine m (token_in_region p m (10 ∷ bs))
unfolding token_by_class body_token class_of pieces_len
feed_ends m bs InText = record { ends = (λ h. cc, λ h. cc) }
feed_ends m bs InInterpolation = interpolation_ends m (is_empty m.openers && is_interpolation_end (10 ∷ bs)) (line_end_ends m 1)
feed_ends m bs OutsideText = line_end_ends m 1

return_ends : (m : Mode) (bs : List ℕ) (p : Region) → EndsLine m (token_in_region p m (13 ∷ 10 ∷ bs))
unfolding token_by_class body_token class_of pieces_len
return_ends m bs InText = record { ends = (λ h. cc, λ h. cc) }
return_ends m bs InInterpolation = interpolation_ends m (is_empty m.openers && is_interpolation_end (13 ∷ 10 ∷ bs)) (line_end_ends m 2)
return_ends m bs OutsideText = line_end_ends m 2

inside_ends : (m : Mode) (b : ℕ) (bs : List ℕ) → is_line_end (b ∷ bs) ≡ true → EndsLine m (token_within_line m (b ∷ bs))
unfolding token_within_line
inside_ends m b bs h = by (eqb b 10) refl
  where
    by : (t : Bool) → eqb b 10 ≡ t → EndsLine m (token_within_line m (b ∷ bs))
    by true e = let at : b ≡ 10 = grind (arith, nat_tests) in subst (λ x. EndsLine m (token_within_line m (x ∷ bs))) (sym at) (feed_ends m bs _)
    by false e =
        let crlf : (eqb b 13 && eqb (get_or bs 0 0) 10) ≡ true = sym (ap (λ t. t || (eqb b 13 && eqb (get_or bs 0 0) 10)) e) ∙ h in
        let parts = and_parts (eqb b 13) _ crlf in
        let at : b ≡ 13 = grind (arith, nat_tests) in
        let on = front_byte bs 10 (omega arith) parts.1 in
        subst (λ x. EndsLine m (token_within_line m (x ∷ bs))) (sym at) (subst (λ x. EndsLine m (token_within_line m (13 ∷ x))) (sym on) (return_ends m (drop 1 bs) _))

at_end_ends : (m : Mode) (o : Option Tok) (ls : List (List ℕ)) → EndsLine m (at_end_by o ls)
at_end_ends m (Some t) ls = record { ends = tt }
at_end_ends m None [] = record { ends = (λ e. cc, λ e. cc) }
at_end_ends m None (l ∷ ls) = record { ends = (λ e. cc, λ e. cc) }

-- at the end of a line no comment is next, and whitespace only where something is open
next_ends : (m : Mode) (rest : List ℕ) → m.line_start ≡ false → begins_blank_line rest ≡ true → EndsLine m (next m rest)
unfolding next
next_ends m [] s h = at_end_ends m m.interpolation m.levels
next_ends m (b ∷ bs) s h = subst (λ t. EndsLine m (next_by t m (b ∷ bs))) (sym s) (inside_ends m b bs (sym (or-false (is_line_end (b ∷ bs))) ∙ h))

-- ---- the delimiters that are open around a token

-- the open delimiters, the innermost first; a format string has its kind
pub record Around : Type 0 where
  pub openers : List (Option StringKind)
  pub interpolation : Bool

abbrev pub innermost : List (Option StringKind) → Option StringKind
innermost [] = None
innermost (o ∷ os) = o

abbrev pub around : TokenKind → List ℕ → Around → Around
around kinds.BraceL l s = record s { openers = None ∷ s.openers }
around kinds.BracketL l s = record s { openers = None ∷ s.openers }
around kinds.ParenL l s = record s { openers = None ∷ s.openers }
around kinds.FormatStringStart l s = record s { openers = Some (kind_of l) ∷ s.openers }
around kinds.BraceR l s = record s { openers = tail_of s.openers }
around kinds.BracketR l s = record s { openers = tail_of s.openers }
around kinds.ParenR l s = record s { openers = tail_of s.openers }
around kinds.FormatStringEnd l s = record s { openers = tail_of s.openers }
around kinds.InterpolationStart l s = record s { interpolation = true }
around kinds.InterpolationEnd l s = record s { interpolation = false }
around _ l s = s

-- no delimiter and no interpolation is open
abbrev pub calm : Around → Bool
calm s = is_empty s.openers && not s.interpolation

abbrev kinds_of : List OpenDelimiter → List (Option StringKind)
kinds_of [] = []
kinds_of (o ∷ os) = format_string_kind o.delimiter ∷ kinds_of os

record IsAround (m : Mode) (s : Around) : Type 0 where
  openers : kinds_of m.openers ≡ s.openers
  interpolation : is_some m.interpolation ≡ s.interpolation

fewer : (os : List OpenDelimiter) (ks : List (Option StringKind)) → kinds_of os ≡ ks → kinds_of (tail_of os) ≡ tail_of ks
fewer [] ks e = ap tail_of e
fewer (o ∷ os) ks e = ap tail_of e

innermost_is : (os : List OpenDelimiter) (ks : List (Option StringKind)) → kinds_of os ≡ ks → format_kind (head_of os) ≡ innermost ks
innermost_is [] ks e = ap innermost e
innermost_is (o ∷ os) ks e = ap innermost e

around_after : (k : TokenKind) (t : Tok) (m : Mode) (s : Around) → IsAround m s → IsAround (mode_after k t m) (around k t.lexeme s)
around_after kinds.BraceL t m s h = record { openers = ap (λ ks. None ∷ ks) h.openers; interpolation = h.interpolation }
around_after kinds.BracketL t m s h = record { openers = ap (λ ks. None ∷ ks) h.openers; interpolation = h.interpolation }
around_after kinds.ParenL t m s h = record { openers = ap (λ ks. None ∷ ks) h.openers; interpolation = h.interpolation }
around_after kinds.FormatStringStart t m s h = record { openers = ap (λ ks. Some (kind_of t.lexeme) ∷ ks) h.openers; interpolation = h.interpolation }
around_after kinds.BraceR t m s h = record { openers = fewer m.openers s.openers h.openers; interpolation = h.interpolation }
around_after kinds.BracketR t m s h = record { openers = fewer m.openers s.openers h.openers; interpolation = h.interpolation }
around_after kinds.ParenR t m s h = record { openers = fewer m.openers s.openers h.openers; interpolation = h.interpolation }
around_after kinds.FormatStringEnd t m s h = record { openers = fewer m.openers s.openers h.openers; interpolation = h.interpolation }
around_after kinds.InterpolationStart t m s h = record { openers = h.openers; interpolation = refl }
around_after kinds.InterpolationEnd t m s h = record { openers = h.openers; interpolation = refl }
around_after _ t m s h = record { openers = h.openers; interpolation = h.interpolation }

calm_not_nested : (m : Mode) (s : Around) → IsAround m s → calm s ≡ true → nested m ≡ false
calm_not_nested m s h c =
    let parts = and_parts (is_empty s.openers) (not s.interpolation) c in
    by m.openers s.openers h.openers parts.0 (is_some m.interpolation) s.interpolation h.interpolation parts.1
  where
    by : (os : List OpenDelimiter) (ks : List (Option StringKind)) → kinds_of os ≡ ks → is_empty ks ≡ true → (i j : Bool) → i ≡ j → not j ≡ true → (not (is_empty os) || i) ≡ false
    by [] ks e z i true same c = cc
    by [] ks e z i false same c = same
    by (o ∷ os) [] e z i j same c = cc
    by (o ∷ os) (k ∷ ks) e z i j same c = cc

-- ---- along the tokens

pub record LexedComment (l : List ℕ) : Type 0 where
  pub following : List ℕ
  pub was : WasComment l following

-- of a token that these are open around
abbrev pub LexemeFact : Around → TokenKind → List ℕ → Type 0
LexemeFact s kinds.Identifier l = IsName l
LexemeFact s kinds.StringToken l = IsString l
LexemeFact s kinds.FormatStringStart l = IsFormatStart l
LexemeFact s kinds.FormatStringContinue l = IsPartOfOpen (innermost s.openers) false l
LexemeFact s kinds.FormatStringEnd l = IsPartOfOpen (innermost s.openers) true l
LexemeFact s kinds.Backtick l = IsCommand l
LexemeFact s kinds.Comment l = LexedComment l
LexemeFact s _ l = Unit {0}

lexeme_fact : (m : Mode) (s : Around) → IsAround m s → (k : TokenKind) (l following : List ℕ) → Fact m k l following → LexemeFact s k l
lexeme_fact m s a kinds.Identifier l following f = f
lexeme_fact m s a kinds.StringToken l following f = f.0
lexeme_fact m s a kinds.FormatStringStart l following f = f
lexeme_fact m s a kinds.FormatStringContinue l following f = subst (λ o. IsPartOfOpen o false l) (innermost_is m.openers s.openers a.openers) f
lexeme_fact m s a kinds.FormatStringEnd l following f = subst (λ o. IsPartOfOpen o true l) (innermost_is m.openers s.openers a.openers) f
lexeme_fact m s a kinds.Backtick l following f = f
lexeme_fact m s a kinds.Comment l following f = record { following = following; was = f }
lexeme_fact m s a _ l following f = tt

-- the properties of a token; `comment` says whether the token before it is a comment
pub record Known (s : Around) (comment : Bool) (t : Tok) : Type 0 where
  pub fact : LexemeFact s t.kind t.lexeme
  pub utf8 : IsUtf8 t.lexeme
  pub apart : comment ≡ true → calm s ≡ true → t.kind ≢ kinds.Comment

-- a string right after an `f` was read in format mode
abbrev pub FormatAfter : Tok → List SignificantToken → Type 0
FormatAfter t [] = Unit {0}
FormatAfter t (u ∷ us) = t.kind ≡ kinds.Identifier → t.lexeme ≡ codes "f" → u.glued ≡ true → u.tok.kind ≡ kinds.StringToken → IsFormatLiteral u.tok.lexeme

abbrev pub is_comment : TokenKind → Bool
is_comment kinds.Comment = true
is_comment _ = false

abbrev pub Sound : Around → Bool → List SignificantToken → Type 0
Sound s comment [] = Unit {0}
Sound s comment (t ∷ ts) = Known s comment t.tok × FormatAfter t.tok ts × Sound (around t.tok.kind t.tok.lexeme s) (is_comment t.tok.kind) ts

-- each token is the next one in the mode that those before it leave
abbrev pub Runs : Mode → List ℕ → List Tok → Type 0
Runs m rest [] = Unit {0}
Runs m rest (t ∷ ts) = (following : List ℕ) × (rest ≡ t.lexeme ++ following) × (next m rest ≡ Ok (t.kind, length t.lexeme)) × Runs (mode_after t.kind t m) following ts

pub whitespace_kind : (k : TokenKind) → is_whitespace k ≡ true → k ≡ kinds.Whitespace
whitespace_kind kinds.Whitespace h = refl
whitespace_kind _ h = cc

comment_kind : (k : TokenKind) → is_comment k ≡ true → k ≡ kinds.Comment
comment_kind kinds.Comment h = refl
comment_kind _ h = cc

unmarked : (t : Tok) (ts : List Tok) → FormatAfter t (significant_from false ts)
unmarked t [] = tt
unmarked t (u ∷ us) = by (is_whitespace u.kind) (unmarked t us)
  where
    by : (w : Bool) → FormatAfter t (significant_from false us) → FormatAfter t (cond w (significant_from false us) (record { tok = u; glued = false } ∷ significant_from true us))
    by true more = more
    by false more = λ kind lexeme glued string. let bad : false ≡ true = glued in cc

format_after : (t : Tok) (ts : List Tok) (m : Mode) (following : List ℕ) → Runs (mode_after t.kind t m) following ts → FormatAfter t (significant_from true ts)
format_after t [] m following r = tt
format_after t (u ∷ us) m following r = by (is_whitespace u.kind)
  where
    by : (w : Bool) → FormatAfter t (cond w (significant_from false us) (record { tok = u; glued = true } ∷ significant_from true us))
    by true = unmarked t us
    by false = λ kind lexeme glued string.
        (subst (λ k. Fact (mode_after t.kind t m) k u.lexeme r.0) string (fact_of (mode_after t.kind t m) u.kind u.lexeme r.0 (sym (ap (next (mode_after t.kind t m)) r.1) ∙ r.2))).1
        (ap (λ k. (mode_after k t m).after_f) kind ∙ ap (λ l. bytes_eq l (102 ∷ [])) lexeme)

sound : (ts : List Tok) (m : Mode) (rest : List ℕ) (s : Around) (comment glued : Bool) → IsUtf8 rest → IsAround m s → Runs m rest ts
    → (comment ≡ true → calm s ≡ true → (begins_blank_line rest ≡ true) × (m.line_start ≡ false)) → Sound s comment (significant_from glued ts)
sound [] m rest s comment glued u a r p = tt
sound (t ∷ ts) m rest s comment glued u a r p =
    by (is_whitespace t.kind) refl
    (λ s' c' g' a' p'. sound ts (mode_after t.kind t m) following s' c' g' (subst IsUtf8 following_is (IsUtf8-drop rest (length t.lexeme) u cut)) a' r.3 p')
  where
    following : List ℕ
    following = r.0

    cut : IsCharBoundary rest (length t.lexeme)
    cut = (token_cut m rest u t.kind (length t.lexeme) r.2).0

    lexeme_is : take (length t.lexeme) rest ≡ t.lexeme
    lexeme_is = ap (take (length t.lexeme)) r.1 ∙ take_front t.lexeme following

    following_is : drop (length t.lexeme) rest ≡ following
    following_is = ap (drop (length t.lexeme)) r.1 ∙ drop_front t.lexeme following

    fact : Fact m t.kind t.lexeme following
    fact = fact_of m t.kind t.lexeme following (sym (ap (next m) r.1) ∙ r.2)

    ended : comment ≡ true → calm s ≡ true → EndsLine m (Ok (t.kind, length t.lexeme))
    ended c q = subst (EndsLine m) r.2 (next_ends m rest (p c q).1 (p c q).0)

    known : Known s comment t
    known = record {
      fact = lexeme_fact m s a t.kind t.lexeme following fact;
      utf8 = subst IsUtf8 lexeme_is (IsUtf8-take rest (length t.lexeme) u cut);
      apart = λ c q. (ended c q).ends.0;
    }

    around' : IsAround (mode_after t.kind t m) (around t.kind t.lexeme s)
    around' = around_after t.kind t m s a

    by : (w : Bool) → is_whitespace t.kind ≡ w
        → ((s' : Around) (c' g' : Bool) → IsAround (mode_after t.kind t m) s' → (c' ≡ true → calm s' ≡ true → (begins_blank_line following ≡ true) × ((mode_after t.kind t m).line_start ≡ false)) → Sound s' c' (significant_from g' ts))
        → Sound s comment (cond w (significant_from false ts) (record { tok = t; glued = glued } ∷ significant_from true ts))
    by true e ih =
        let kind = whitespace_kind t.kind e in
        ih s comment false (subst (λ k. IsAround (mode_after t.kind t m) (around k t.lexeme s)) kind around') (λ c q. let bad : true ≡ false = sym ((ended c q).ends.1 kind) ∙ calm_not_nested m s a q in cc)
    by false e ih = (
      known,
      format_after t ts m following r.3,
      ih (around t.kind t.lexeme s) (is_comment t.kind) true around' (λ c q.
          let kind = comment_kind t.kind c in
          let was : WasComment t.lexeme following = subst (λ k. Fact m k t.lexeme following) kind fact in
          (was.stop, ap (λ k. (mode_after k t m).line_start) kind)),
    )

-- ---- the tokens of a text

-- before the first token, no delimiter and no interpolation is open
abbrev pub outside : Around
outside = record { openers = []; interpolation = false }

module _ (text : List ℕ) where
  pub runs_one : (e : List Tok) (t : Tok) (ts : List Tok) → IsNext text e t → Runs (mode (t ∷ e)) (drop (end_of (t ∷ e)) text) ts → Runs (mode e) (drop (end_of e) text) (t ∷ ts)
  runs_one e t ts n r =
      let rest : List ℕ = drop (end_of e) text in
      let lexeme : t.lexeme ≡ take (length t.lexeme) rest = n.stands.lexeme_is ∙ ap (λ o. slice_of text o (length t.lexeme)) n.stands.offset_is in
      let following : drop (end_of (t ∷ e)) text ≡ drop (length t.lexeme) rest = ap (λ o. drop (o + length t.lexeme) text) n.stands.offset_is ∙ drop_drop (end_of e) (length t.lexeme) text in
      (drop (length t.lexeme) rest, sym (take-append-drop (length t.lexeme) rest) ∙ ap (λ l. l ++ drop (length t.lexeme) rest) (sym lexeme), n.found, subst (λ b. Runs (mode (t ∷ e)) b ts) following r)

  pub runs_from : (e ts : List Tok) → Begins text e → Runs (mode e) (drop (end_of e) text) ts → Runs start_mode text (reverse e ++ ts)
  runs_from [] ts b r = r
  runs_from (t ∷ e) ts b r =
      let moved : reverse e ++ (t ∷ ts) ≡ reverse (t ∷ e) ++ ts = sym (append_assoc (reverse e) (t ∷ []) ts) ∙ ap (λ l. l ++ ts) (sym (reverse-append (t ∷ []) e)) in
      subst (Runs start_mode text) moved (runs_from e (t ∷ ts) b.0 (runs_one e t ts b.1 r))

  -- each significant token of a text has its properties
  pub lexed_sound : (tokens : List Tok) → IsUtf8 text → Lexed text tokens → Sound outside false (significant_from false tokens)
  lexed_sound tokens u l =
      let order : reverse l.earlier ++ (l.last ∷ []) ≡ tokens = sym (sym (reverse-reverse tokens) ∙ ap reverse l.are ∙ reverse-append (l.last ∷ []) l.earlier) in
      let runs = runs_from l.earlier (l.last ∷ []) l.begins (runs_one l.earlier l.last [] l.is_next tt) in
      sound tokens start_mode text outside false false u (record { openers = refl; interpolation = refl }) (subst (Runs start_mode text) order runs) (λ c q. cc)
