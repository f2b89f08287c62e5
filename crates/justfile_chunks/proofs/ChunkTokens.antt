-- The chunks of a text are lexed by themselves to their tokens in the text.
use Rattle.std.proofs.Common.{◌≡◌, ◌≢◌, ◌∙◌, ℕ, ◌+◌, ◌<◌, Bool, true, false, cond, List, [], ◌∷◌, ◌++◌, length, map, Some, None, Ok, refl, sym, ap, subst, arith, append_assoc, length-append, ⊎_elim}
use Rattle.std.specs.Prelude.{reverse}
use Rattle.std.specs.List.{AllZip}
use Rattle.std.specs.Str.{IsUtf8}
use Rattle.std.proofs.lemmas.List.{map-append}
use Rattle.std.proofs.lemmas.List.Concat.{flat_map-append}
use Rattle.justfile_vocabulary.specs.ByteClass.{class_of}
use Rattle.justfile_vocabulary.specs.declared.token_kind.TokenKind.{TokenKind}
use Rattle.justfile_vocabulary.specs.declared.token_kind.TokenKind.TheVariants as kinds
use Rattle.justfile_model.specs.Lexing.Lexed.{Begins, Lexed}
use Rattle.justfile_model.specs.Lexing.Modes.{Mode, mode, mode_after, start_mode}
use Rattle.justfile_model.specs.Lexing.Next.{layout, next, token_by_class, token_within_line}
use Rattle.justfile_model.specs.Lexing.SignificantTokens.{is_whitespace}
use Rattle.justfile_model.specs.Lexing.Tok.{Tok, tok}
use Rattle.justfile_model.specs.Trees.Tree.{lexeme}
use Rattle.justfile_model.proofs.Lexing.LexedLaws.{ended, joined, one_list}
use Rattle.justfile_model.proofs.Lexing.NextLaws.{token_cut}
use Rattle.justfile_model.proofs.Lexing.UnclosedLaws.{reverse_more}
use Rattle.justfile_round_trip.proofs.LiteralTexts.FormatScans.{same_front}
use Rattle.justfile_round_trip.proofs.LiteralTexts.LexedModes.{LexesTo, Sign, lexed, sign, toks}
use Rattle.justfile_round_trip.proofs.RecipeBodies.Lines.{blank_line}
use Rattle.justfile_round_trip.proofs.Values.TokenFacts.{Runs}
use Rattle.justfile_chunks.specs.Chunks.{AreParts, IsCut, Parts, after_feed, chunk_texts, next_kind, text_of}
use Rattle.justfile_chunks.proofs.CutModes.{BodyHasLevel, level_after, mode_at_cut}
use Rattle.justfile_chunks.proofs.PartLexes.{EndsEmpty, EndsOnce, IsPart, but_last, colons_back, ends_later, last_lexes, last_signs, part_lexes, same_colons}
use Rattle.justfile_chunks.proofs.PartSteps.{Uncut, kind_is, len_is}
use Rattle.justfile_chunks.proofs.Colons.{IndentsHaveColons, NeedsColon, colon_after}
use Rattle.justfile_chunks.proofs.SameModes.{HaveColon, NoneIsEof, signs, mode_past}
use Rattle.justfile_chunks.proofs.SameNext.{SameMode}
use Rattle.justfile_chunks.proofs.SplitRuns.{in_order, runs_of, split_run, split_utf8}
use Rattle.justfile_chunks.proofs.TidyModes.{EndsInFeed, Fed, LevelFact, Tidy, feed_of, fed_run}

-- ---- parts

-- the tokens after the earlier ones, the last one first
abbrev pub onto : (earlier part : List Tok) → List Tok
onto earlier [] = earlier
onto earlier (t ∷ part) = onto (t ∷ earlier) part

-- the first part, up to a cut, and the others
pub record Split (earlier later part : List Tok) (parts : List (List Tok)) : Type 0 where
  pub rest : List Tok
  pub is : later ≡ part ++ rest
  pub some : 0 < length part
  pub uncut : Uncut earlier part rest
  pub cut : IsCut (onto earlier part) rest
  pub others : Parts (onto earlier part) rest parts

-- if it is the only part, it is all tokens; else a cut is after the first
abbrev pub FirstPart : (earlier later : List Tok) → (parts : List (List Tok)) → Type 0
FirstPart earlier later [] = ⊥
FirstPart earlier later (part ∷ []) = later ≡ part
FirstPart earlier later (part ∷ q ∷ parts) = Split earlier later part (q ∷ parts)

pub first_part : {earlier later : List Tok} {parts : List (List Tok)} → Parts earlier later parts → FirstPart earlier later parts
first_part Parts.last = refl
first_part (Parts.cut {parts = []} c rest) = absurd (first_part rest)
first_part (Parts.cut {later = l} {parts = q ∷ ps} c rest) = record { rest = l; is = refl; some = omega arith; uncut = tt; cut = c; others = rest }
first_part (Parts.uncut {parts = []} {t = t} u rest) = ap (λ x. t ∷ x) (first_part rest)
first_part (Parts.uncut {earlier = e} {later = l} {part = p} {parts = q ∷ ps} {t = t} u rest) =
    let s = first_part rest in
    record { rest = s.rest; is = ap (λ x. t ∷ x) s.is; some = omega arith; uncut = more p s.rest s.is s.uncut; cut = s.cut; others = s.others }
  where
    more : (p rest : List Tok) → l ≡ p ++ rest → Uncut (t ∷ e) p rest → Uncut e (t ∷ p) rest
    more [] rest is h = tt
    more (w ∷ p) rest is h = (λ c. u (subst (λ x. IsCut (t ∷ e) x) (sym is) c), h)

onto_mode : (part earlier : List Tok) → mode (onto earlier part) ≡ mode_past (mode earlier) part
onto_mode [] earlier = refl
onto_mode (t ∷ part) earlier = onto_mode part (t ∷ earlier)

-- ---- after a cut

-- the later tokens of a text, at its start or after a cut
pub record Later (earlier later : List Tok) : Type 0 where
  pub same : SameMode (mode earlier) start_mode
  pub utf8 : IsUtf8 (text_of later)
  pub run : Runs (mode earlier) (text_of later) later
  pub ends : EndsOnce later
  pub empty : EndsEmpty later

-- what is said of tokens by their last one holds of each end of them
rest_of : (E : List Tok → Type 0) → ((t u : Tok) (ts : List Tok) → E (t ∷ u ∷ ts) → E (u ∷ ts)) → (p rest : List Tok) → 0 < length rest → E (p ++ rest) → E rest
rest_of E step [] rest l h = h
rest_of E step (t ∷ []) [] l h = absurd (omega arith)
rest_of E step (t ∷ []) (u ∷ rest) l h = step t u rest h
rest_of E step (t ∷ w ∷ p) rest l h = rest_of E step (w ∷ p) rest l (step t w (p ++ rest) h)

none_ends : (p rest : List Tok) → 0 < length rest → EndsOnce (p ++ rest) → NoneIsEof p
none_ends [] rest l h = tt
none_ends (t ∷ []) [] l h = absurd (omega arith)
none_ends (t ∷ []) (u ∷ rest) l h = (h.0, tt)
none_ends (t ∷ w ∷ p) rest l h = (h.0, none_ends (w ∷ p) rest l h.1)

-- outside of levels a token has bytes
first_bytes : (t : Tok) (ts : List Tok) (m : Mode) (x : List ℕ) → t.kind ≢ kinds.Eof → m.levels ≡ [] → IsUtf8 x → Runs m x (t ∷ ts) → 0 < length t.lexeme
first_bytes t ts m x ne ls u r =
    ⊎_elim (λ some. some) (λ none. absurd (⊎_elim (λ end. ne end) (λ close. omega (arith, close.1, ap length ls)) none))
    ((token_cut m x u t.kind (length t.lexeme) r.2).1)

some_bytes : (ts rest : List Tok) (m : Mode) (x : List ℕ) → NoneIsEof ts → 0 < length ts → m.levels ≡ [] → IsUtf8 x → Runs m x (ts ++ rest)
    → 0 < length (text_of ts)
some_bytes [] rest m x n l ls u r = absurd (omega arith)
some_bytes (t ∷ ts) rest m x n l ls u r = omega (arith, first_bytes t (ts ++ rest) m x n.0 ls u r, length-append t.lexeme (text_of ts))

pub some_text : (rest : List Tok) (m : Mode) (x : List ℕ) → EndsOnce rest → next_kind rest ≢ Some kinds.Eof → m.levels ≡ [] → IsUtf8 x → Runs m x rest
    → 0 < length (text_of rest)
some_text [] m x o ne ls u r = absurd o
some_text (t ∷ []) m x o ne ls u r = absurd (ne (ap (λ k. cond (is_whitespace k) None (Some k)) o))
some_text (t ∷ w ∷ ts) m x o ne ls u r = omega (arith, first_bytes t (w ∷ ts) m x o.0 ls u r, length-append t.lexeme (text_of (w ∷ ts)))

same_clear : (m : Mode) → SameMode m start_mode → BodyHasLevel m
same_clear m s = λ h. let bad : true ≡ false = sym h ∙ s.in_body in cc

-- the mode after a part that ends at a cut
at_cut : (p earlier rest : List Tok) (v : List ℕ) → 0 < length p → BodyHasLevel (mode earlier) → Runs (mode earlier) (text_of p ++ v) (p ++ rest) → 0 < length v
    → IsCut (onto earlier p) rest
    → SameMode (mode (onto earlier p)) start_mode
at_cut [] earlier rest v l b r some c = absurd (omega arith)
at_cut (t ∷ []) earlier rest v l b r some c =
    by (text_of (t ∷ []) ++ v) (omega (arith, length-append (text_of (t ∷ [])) v, some)) r.2
  where
    by : (x : List ℕ) → 0 < length x → next (mode earlier) x ≡ Ok (t.kind, length t.lexeme) → SameMode (mode (t ∷ earlier)) start_mode
    by [] l e = absurd (omega arith)
    by (y ∷ ys) l e = mode_at_cut (mode earlier) t.kind (length t.lexeme) t y ys b e c.ends c.outside
at_cut (t ∷ w ∷ p) earlier rest v l b r some c =
    let following : r.0 ≡ text_of (w ∷ p) ++ v = (same_front t.lexeme r.0 t.lexeme (text_of (w ∷ p) ++ v) (sym r.1
    ∙ append_assoc t.lexeme (text_of (w ∷ p)) v) refl).1 in
    at_cut (w ∷ p) (t ∷ earlier) rest v (omega arith) (level_after t.kind t (mode earlier) b)
    (subst (λ x. Runs (mode (t ∷ earlier)) x (w ∷ p ++ rest)) following r.3) some c

start_tidy : (earlier : List Tok) → SameMode (mode earlier) start_mode → Tidy earlier
start_tidy earlier s = record {
  levels = subst (λ ls. LevelFact ls (mode earlier).in_body) (sym s.levels) s.in_body;
  line = λ start flat body. let bad : true ≡ false = sym body ∙ s.in_body in cc;
}

pub no_colon : (m n : Mode) → HaveColon false m n
no_colon m n = record { first = λ e. cc; second = λ e. cc }

-- a part up to a cut, and the tokens after it
pub record NextPart (earlier part rest : List Tok) : Type 0 where
  pub some : 0 < length (text_of rest)
  pub more : 0 < length rest
  pub is_part : IsPart (text_of rest) rest some more part earlier start_mode false
  pub ended : SameMode (mode_past (mode earlier) part) start_mode
  pub bytes : 0 < length (text_of part)
  pub feeds : EndsInFeed (text_of part)
  pub goes_on : next_kind rest ≢ Some kinds.Eof
  pub later : Later (onto earlier part) rest

parts_some : {earlier later : List Tok} {parts : List (List Tok)} → Parts earlier later parts → 0 < length later
parts_some Parts.last = omega arith
parts_some _ = omega arith

cut_goes_on : (e rest : List Tok) → IsCut e rest → next_kind rest ≢ Some kinds.Eof
cut_goes_on [] rest c = absurd c
cut_goes_on (t ∷ e) rest c = c.goes_on

cut_outside : (e rest : List Tok) → IsCut e rest → (mode e).levels ≡ []
cut_outside [] rest c = absurd c
cut_outside (t ∷ e) rest c = c.outside

-- tokens up to a cut, and those after it
pub record AfterCut (earlier part rest : List Tok) : Type 0 where
  pub some : 0 < length (text_of rest)
  pub utf8 : IsUtf8 (text_of part ++ text_of rest)
  pub run : Runs (mode earlier) (text_of part ++ text_of rest) (part ++ rest)
  pub no_eof : NoneIsEof part
  pub fed : Fed (text_of part)
  pub ended : SameMode (mode_past (mode earlier) part) start_mode
  pub bytes : 0 < length (text_of part)
  pub later : Later (onto earlier part) rest

pub after_cut : (earlier later part rest : List Tok) → Later earlier later → later ≡ part ++ rest → 0 < length part → 0 < length rest
    → IsCut (onto earlier part) rest
    → AfterCut earlier part rest
after_cut earlier later part rest h is begun l cut =
    let text : text_of later ≡ text_of part ++ text_of rest = ap text_of is ∙ flat_map-append lexeme part rest in
    let utf8 : IsUtf8 (text_of part ++ text_of rest) = subst IsUtf8 text h.utf8 in
    let run : Runs (mode earlier) (text_of part ++ text_of rest) (part ++ rest) =
    (subst (λ x. Runs (mode earlier) x (part ++ rest)) text (subst (λ ts. Runs (mode earlier) (text_of later) ts) is h.run)) in
    let ends : EndsOnce (part ++ rest) = subst EndsOnce is h.ends in
    let two = split_run (mode earlier) (text_of part ++ text_of rest) part rest run in
    let following : two.following ≡ text_of rest = sym (same_front (text_of part) (text_of rest) (text_of part) two.following two.rest_is refl).1 in
    let rest_run : Runs (mode_past (mode earlier) part) (text_of rest) rest = subst
    (λ x. Runs (mode_past (mode earlier) part) x rest) following two.run in
    let rest_utf8 : IsUtf8 (text_of rest) = subst IsUtf8 following (split_utf8 part rest (mode earlier) (text_of part ++ text_of rest) utf8 run) in
    let some : 0 < length (text_of rest) = some_text rest (mode_past (mode earlier) part) (text_of rest) (rest_of EndsOnce (λ t u ts h. h.1) part rest l ends)
    (cut_goes_on (onto earlier part) rest cut)
    (sym (ap (λ (m : Mode). m.levels) (onto_mode part earlier)) ∙ cut_outside (onto earlier part) rest cut) rest_utf8 rest_run in
    let same : SameMode (mode (onto earlier part)) start_mode = at_cut part earlier rest (text_of rest) begun
    (same_clear (mode earlier) h.same) run some cut in
    let past : SameMode (mode_past (mode earlier) part) start_mode = subst (λ m. SameMode m start_mode) (onto_mode part earlier) same in
    let no_eof = none_ends part rest l ends in
    record {
      some = some;
      utf8 = utf8;
      run = run;
      no_eof = no_eof;
      fed = fed_run part (mode earlier) (text_of part ++ text_of rest) utf8 two.first past.line_start;
      ended = past;
      bytes = some_bytes part rest (mode earlier) (text_of part ++ text_of rest) no_eof begun h.same.levels utf8 run;
      later = record {
        same = same;
        utf8 = rest_utf8;
        run = subst (λ m. Runs m (text_of rest) rest) (sym (onto_mode part earlier)) rest_run;
        ends = rest_of EndsOnce (λ t u ts h. h.1) part rest l ends;
        empty = rest_of EndsEmpty (λ t u ts h. h) part rest l (subst EndsEmpty is h.empty);
      };
    }

pub next_part : (earlier later part : List Tok) (parts : List (List Tok)) → Later earlier later → (s : Split earlier later part parts)
    → NextPart earlier part s.rest
next_part earlier later part parts h s =
    let l = parts_some s.others in
    let a = after_cut earlier later part s.rest h s.is s.some l s.cut in
    record {
      some = a.some;
      more = l;
      is_part = assumption (start_tidy earlier h.same, no_colon (mode earlier) start_mode, h, s, a);
      ended = a.ended;
      bytes = a.bytes;
      feeds = feed_of (text_of part) a.fed a.bytes;
      goes_on = cut_goes_on (onto earlier part) s.rest s.cut;
      later = a.later;
    }

-- ---- the tokens of a text

ends_after : (text : List ℕ) (e ts : List Tok) → Begins text e → EndsOnce ts → EndsOnce (reverse e ++ ts)
ends_after text [] ts b o = o
ends_after text (t ∷ e) ts b o = subst EndsOnce (sym (reverse_more t e ts)) (ends_after text e (t ∷ ts) b.0 (by ts o))
  where
    by : (ts : List Tok) → EndsOnce ts → EndsOnce (t ∷ ts)
    by [] o = absurd o
    by (u ∷ ts) o = (b.2, o)

lexed_ends : (text : List ℕ) (tokens : List Tok) → Lexed text tokens → EndsOnce tokens
lexed_ends text tokens l = subst EndsOnce (in_order text tokens l) (ends_after text l.earlier (l.last ∷ []) l.begins l.is_end)

ends_empty : (front : List Tok) (t : Tok) → t.lexeme ≡ [] → EndsEmpty (front ++ (t ∷ []))
ends_empty [] t e = e
ends_empty (u ∷ []) t e = e
ends_empty (u ∷ w ∷ front) t e = ends_empty (w ∷ front) t e

-- ---- the chunks

-- The line feed before a part, and the end of the text after it, as tokens at some places. The flag says that the part is the first one.
pub record Borders : Type 0 where
  pub feed : List Tok → Tok
  pub eof : Bool → List Tok → Tok
  pub feed_kind : (part : List Tok) → (feed part).kind ≡ kinds.Eol
  pub feed_text : (part : List Tok) → (feed part).lexeme ≡ 10 ∷ []
  pub eof_kind : (first : Bool) (part : List Tok) → (eof first part).kind ≡ kinds.Eof
  pub eof_text : (first : Bool) (part : List Tok) → (eof first part).lexeme ≡ []

-- at the start of the text
abbrev pub plain : Borders
plain = record {
  feed = λ part. tok kinds.Eol (10 ∷ []) 0 0 0;
  eof = λ first part. tok kinds.Eof [] 0 0 0;
  feed_kind = λ part. refl;
  feed_text = λ part. refl;
  eof_kind = λ first part. refl;
  eof_text = λ first part. refl;
}

-- the text of a chunk; before each but the first there is a line feed
abbrev text_by : Bool → List Tok → List ℕ
text_by true part = text_of part
text_by false part = after_feed part

abbrev texts_by : Bool → List (List Tok) → List (List ℕ)
texts_by first [] = []
texts_by first (part ∷ parts) = text_by first part ∷ map after_feed parts

module _ (b : Borders) where
  -- these tokens, and before them the line feed of the part
  abbrev pub tokens_by : Bool → (part tokens : List Tok) → List Tok
  tokens_by true part tokens = tokens
  tokens_by false part tokens = b.feed part ∷ tokens

  abbrev pub closed : Bool → List Tok → List Tok
  closed first part = part ++ (b.eof first part ∷ [])

  -- the part, with its end if others follow it
  abbrev pub ended_before : List (List Tok) → Bool → List Tok → List Tok
  ended_before [] first part = part
  ended_before (q ∷ parts) first part = closed first part

  -- the tokens of the chunks: each but the last is ended
  abbrev pub chunks_by : Bool → List (List Tok) → List (List Tok)
  chunks_by first [] = []
  chunks_by first (part ∷ parts) = tokens_by first part (ended_before parts first part) ∷ chunks_by false parts

-- The text has these tokens, up to their places, if each indent follows a colon: of these tokens, or of those of the text.
pub record ChunkLexes (text : List ℕ) (tokens : List Tok) : Type 0 where
  pub lexes : IndentsHaveColons false tokens → (us : List Tok) × Lexed text us × (signs us ≡ signs tokens)
  pub has : (us : List Tok) → Lexed text us → IndentsHaveColons false us → signs us ≡ signs tokens

abbrev pub AllLex : List (List ℕ) → List (List Tok) → Type 0
AllLex texts chunks = AllZip ChunkLexes texts chunks

pub signs_toks : (text : List ℕ) (offset : ℕ) (ms : List Sign) → signs (toks text offset ms) ≡ ms ++ (sign kinds.Eof [] ∷ [])
signs_toks text offset [] = refl
signs_toks text offset (m ∷ ms) = ap (λ x. m ∷ x) (signs_toks text (offset + length m.lexeme) ms)

pub feed_first : (x : List ℕ) → next start_mode (10 ∷ x) ≡ Ok (kinds.Eol, 1)
unfolding next layout token_within_line token_by_class class_of
feed_first x = refl

module _ (b : Borders) (part tokens : List Tok) (ms : List Sign) (are : signs tokens ≡ ms ++ (sign kinds.Eof [] ∷ []))
    (to : IndentsHaveColons false tokens → LexesTo start_mode (text_of part) ms)
    (back : (us : List Tok) → Runs start_mode (text_of part) us → EndsOnce us → IndentsHaveColons false us → IndentsHaveColons false tokens) where
  lexes_by : (first : Bool) → IndentsHaveColons false tokens → (us : List Tok) × Lexed (text_by first part) us
      × (signs us ≡ signs (tokens_by b first part tokens))
  lexes_by true c = (toks (text_of part) 0 ms, lexed (text_of part) ms (to c), signs_toks (text_of part) 0 ms ∙ sym are)
  lexes_by false c =
      let ns : List Sign = sign kinds.Eol (10 ∷ []) ∷ ms in (
        toks (after_feed part) 0 ns,
        lexed (after_feed part) ns (blank_line false (to c)),
        signs_toks (after_feed part) 0 ns
            ∙ (λ i. sign (sym (b.feed_kind part) i) (sym (b.feed_text part) i) ∷ sym are i),
      )

  colons_by : (first : Bool) (us : List Tok) → Runs start_mode (text_by first part) us → EndsOnce us → IndentsHaveColons false us
      → IndentsHaveColons false tokens
  colons_by true us r o c = back us r o c
  colons_by false [] r o c = absurd o
  colons_by false (u ∷ us) r o c =
      let same = sym r.2 ∙ feed_first (text_of part) in
      let kind : u.kind ≡ kinds.Eol = kind_is u.kind kinds.Eol (length u.lexeme) 1 same in
      let front = same_front u.lexeme r.0 (10 ∷ []) (text_of part) (sym r.1) (len_is u.kind kinds.Eol (length u.lexeme) 1 same) in
      back us
      (subst (λ k. Runs (mode_after k u start_mode) (text_of part) us) kind (subst (λ x. Runs (mode_after u.kind u start_mode) x us) front.1 r.3))
      (ends_later u us o (λ e. let bad : kinds.Eol ≡ kinds.Eof = sym kind ∙ e in cc)) (subst (λ k. IndentsHaveColons (colon_after k false) us) kind c.1)

  chunk_by : (first : Bool) → ChunkLexes (text_by first part) (tokens_by b first part tokens)
  chunk_by first = record {
    lexes = λ c. lexes_by first (later first c);
    has = λ us l c.
        let x = lexes_by first (colons_by first us (runs_of (text_by first part) us l) (lexed_ends (text_by first part) us l) c) in
        ap signs (one_list (text_by first part) us x.0 l x.1) ∙ x.2;
  }
    where
      later : (first : Bool) → IndentsHaveColons false (tokens_by b first part tokens) → IndentsHaveColons false tokens
      later true c = c
      later false c = subst (λ k. IndentsHaveColons (colon_after k false) tokens) (b.feed_kind part) c.1

colons_front : (ts us : List Tok) (colon : Bool) → IndentsHaveColons colon (ts ++ us) → IndentsHaveColons colon ts
colons_front [] us colon c = tt
colons_front (t ∷ ts) us colon c = (c.0, colons_front ts us (colon_after t.kind colon) c.1)

-- a colon before them does no harm
colons_more : (ts : List Tok) (colon : Bool) → IndentsHaveColons false ts → IndentsHaveColons colon ts
colons_more ts false h = h
colons_more [] true h = tt
colons_more (t ∷ ts) true h = by t.kind h.0 h.1 (colons_more ts true)
  where
    by : (k : TokenKind) → NeedsColon k false → IndentsHaveColons (colon_after k false) ts → (IndentsHaveColons false ts → IndentsHaveColons true ts)
        → NeedsColon k true × IndentsHaveColons (colon_after k true) ts
    by kinds.Indent n c f = (refl, f c)
    by kinds.Colon n c f = (tt, c)
    by kinds.Dedent n c f = (tt, c)
    by _ n c f = (tt, f c)

colons_append : (ts us : List Tok) (colon : Bool) → IndentsHaveColons colon ts → IndentsHaveColons false us → IndentsHaveColons colon (ts ++ us)
colons_append [] us colon h k = colons_more us colon k
colons_append (t ∷ ts) us colon h k = (h.0, colons_append ts us (colon_after t.kind colon) h.1 k)

module _ (b : Borders) where
  -- a chunk that ends at a cut
  cut_chunk : (earlier part rest : List Tok) → NextPart earlier part rest → (first : Bool)
      → ChunkLexes (text_by first part) (tokens_by b first part (closed b first part))
  cut_chunk earlier part rest n first =
      let t = b.eof first part in
      let are : signs (part ++ (t ∷ [])) ≡ signs part ++ (sign kinds.Eof [] ∷ []) =
      map-append (λ (t : Tok). sign t.kind t.lexeme) part (t ∷ []) ∙ (λ i. signs part ++ (sign (b.eof_kind first part i) (b.eof_text first part i) ∷ [])) in
      chunk_by b part (closed b first part) (signs part) are
      (λ c. record { is = part_lexes (text_of rest) rest n.some n.more part earlier start_mode false n.is_part (colons_front part (t ∷ []) false c) n.ended })
      (λ us r o c. colons_append part (t ∷ []) false (colons_back (text_of rest) rest n.some n.more part us earlier start_mode false n.is_part r o c)
      (subst (λ k. NeedsColon k false) (sym (b.eof_kind first part)) tt, tt))
      first

  -- the last chunk
  last_chunk : (earlier later : List Tok) → Later earlier later → (first : Bool) → ChunkLexes (text_by first later) (tokens_by b first later later)
  last_chunk earlier later h =
      chunk_by b later later (signs (but_last later)) (last_signs later h.ends h.empty)
      (λ c. record { is = last_lexes later (mode earlier) start_mode false h.same (no_colon (mode earlier) start_mode) c h.ends h.empty h.run })
      (λ us r o c. same_colons later us (mode earlier) start_mode false (text_of later) h.same (no_colon (mode earlier) start_mode) h.run r h.ends o c)

all_lex : (b : Borders) (parts : List (List Tok)) (earlier later : List Tok) → Later earlier later → Parts earlier later parts → (first : Bool)
    → AllLex (texts_by first parts) (chunks_by b first parts)
all_lex b [] earlier later h p first = absurd (first_part p)
all_lex b (part ∷ []) earlier later h p first =
    (subst (λ x. ChunkLexes (text_by first x) (tokens_by b first x x)) (first_part p) (last_chunk b earlier later h first), tt)
all_lex b (part ∷ q ∷ parts) earlier later h p first =
    let s = first_part p in
    let n = next_part earlier later part (q ∷ parts) h s in
    (cut_chunk b earlier part s.rest n first, all_lex b (q ∷ parts) (onto earlier part) s.rest n.later s.others false)

module _ (text : List ℕ) (tokens : List Tok) (u : IsUtf8 text) (l : Lexed text tokens) where
  pub whole_is : text_of tokens ≡ text
  whole_is = joined text tokens u l

  pub from_start : Later [] tokens
  from_start =
      let e = ended text tokens u l in
      record {
        same = record { openers = refl; levels = refl; in_body = refl; interpolation = refl; line_start = refl; after_f = refl };
        utf8 = subst IsUtf8 (sym whole_is) u;
        run = subst (λ x. Runs start_mode x tokens) (sym whole_is) (runs_of text tokens l);
        ends = lexed_ends text tokens l;
        empty = subst EndsEmpty (sym e.are) (ends_empty e.front e.last e.lexeme_is);
      }

  -- the chunks of a text are lexed to their tokens
  pub chunks_lex : (b : Borders) (parts : List (List Tok)) → AreParts tokens parts → AllLex (chunk_texts parts) (chunks_by b true parts)
  chunks_lex b [] p = absurd (first_part p)
  chunks_lex b (part ∷ parts) p = all_lex b (part ∷ parts) [] tokens from_start p true
