-- If each indent follows a colon, a level is open only in a body, and one at most; and where a line of a body starts, the line before it is ended.
use Rattle.std.proofs.Common.{◌≡◌, ◌∙◌, ℕ, suc, ◌-◌, ◌<◌, ◌≤◌, Bool, true, false, eqb, ◌||◌, List, [], ◌∷◌, ◌++◌, ◌⊎◌, inl, inr, length, get_or, Option, None, Ok, refl, sym, ap, subst, arith, append_assoc, append-nil, ⊎_elim}
use Rattle.std.specs.List.{flat_map}
use Rattle.std.specs.Str.{IsUtf8}
use Rattle.std.proofs.Math.ListN.{get_or-append}
use Rattle.std.proofs.lemmas.Bool.Decides.{nat_tests}
use Rattle.std.proofs.lemmas.List.{nil_from_length}
use Rattle.justfile_vocabulary.specs.declared.token_kind.TokenKind.{TokenKind}
use Rattle.justfile_vocabulary.specs.declared.token_kind.TokenKind.TheVariants as kinds
use Rattle.justfile_model.specs.Lexing.Bytes.{blank_len, is_blank}
use Rattle.justfile_model.specs.Lexing.Modes.{Mode, ends_in_line_feed, mode, mode_after, nested, tail_of}
use Rattle.justfile_model.specs.Lexing.Next.{next}
use Rattle.justfile_model.specs.Lexing.Tok.{Tok}
use Rattle.justfile_model.specs.Trees.Tree.{lexeme}
use Rattle.justfile_model.proofs.Lexing.CutLemmas.{blank_no_newline, run_last}
use Rattle.justfile_model.proofs.Lexing.NextLaws.{token_cut}
use Rattle.justfile_round_trip.proofs.Values.TokenFacts.{Runs}
use Rattle.justfile_chunks.specs.Chunks.{line_kind}
use Rattle.justfile_chunks.proofs.CutModes.{NextFact, next_fact}
use Rattle.justfile_chunks.proofs.SplitRuns.{rest_utf8}
use Rattle.justfile_chunks.proofs.Colons.{NeedsColon}
use Rattle.justfile_chunks.proofs.Passes.{line_with}
use Rattle.justfile_chunks.proofs.SameModes.{mode_past, or_true}

-- ---- the levels and the line

-- no level is open, or one in a body
abbrev pub LevelFact : List (List ℕ) → Bool → Type 0
LevelFact [] in_body = in_body ≡ false
LevelFact (l ∷ []) in_body = in_body ≡ true
LevelFact (l ∷ k ∷ ls) in_body = ⊥

-- after the earlier tokens, the last one first
pub record Tidy (earlier : List Tok) : Type 0 where
  pub levels : LevelFact (mode earlier).levels (mode earlier).in_body
  pub line : (mode earlier).line_start ≡ true → nested (mode earlier) ≡ false → (mode earlier).in_body ≡ true → line_kind earlier ≡ None

levels_after : (k : TokenKind) (t : Tok) (m : Mode) (rest : List ℕ) (n : ℕ) (colon : Bool) → NextFact m rest k n → NeedsColon k colon
    → (colon ≡ true → m.colon ≡ true)
    → LevelFact m.levels m.in_body → LevelFact (mode_after k t m).levels (mode_after k t m).in_body
levels_after kinds.Indent t m rest n colon f c has h = by m.levels m.in_body f h
  where
    by : (ls : List (List ℕ)) (b : Bool) → b ≡ false → LevelFact ls b → LevelFact (t.lexeme ∷ ls) (b || m.colon)
    by [] b f h = or_true b m.colon (has c)
    by (l ∷ []) b f h = let bad : true ≡ false = sym h ∙ f in cc
    by (l ∷ k ∷ ls) b f h = absurd h
levels_after kinds.Dedent t m rest n colon f c has h = by m.levels h
  where
    by : (ls : List (List ℕ)) → LevelFact ls m.in_body → LevelFact (tail_of ls) false
    by [] h = refl
    by (l ∷ []) h = refl
    by (l ∷ k ∷ ls) h = absurd h
levels_after _ t m rest n colon f c has h = h

-- blanks don't end in a line feed
pub blanks_end : (l following : List ℕ) → ends_in_line_feed l ≡ true → (0 < length l) × (length l ≤ blank_len (l ++ following)) → ⊥
blanks_end l following h f =
    let last : get_or (l ++ following) (length l - 1) 0 ≡ get_or l (length l - 1) 0 = get_or-append l following 0 (length l - 1) (omega (arith, f.0)) in
    let bad : true ≡ false = sym (ap (λ b. eqb b 10) last ∙ h) ∙ run_last is_blank blank_no_newline (l ++ following) (length l) f.1 f.0 in
    cc

line_kept : (k : TokenKind) (t : Tok) (m : Mode) (following : List ℕ) (line : Option TokenKind) → NextFact m (t.lexeme ++ following) k (length t.lexeme)
    → (m.line_start ≡ true → nested m ≡ false → m.in_body ≡ true → line ≡ None)
    → (mode_after k t m).line_start ≡ true → nested (mode_after k t m) ≡ false → (mode_after k t m).in_body ≡ true → line_with k line ≡ None
line_kept kinds.Eol t m following line f h s n b = refl
line_kept kinds.Whitespace t m following line f h s n b = absurd (blanks_end t.lexeme following s (f b n))
line_kept _ t m following line f h s n b = cc

pub tidy_after : (t : Tok) (earlier : List Tok) (following : List ℕ) (colon : Bool) → 0 < length (t.lexeme ++ following)
    → next (mode earlier) (t.lexeme ++ following) ≡ Ok (t.kind, length t.lexeme) → NeedsColon t.kind colon → (colon ≡ true → (mode earlier).colon ≡ true)
    → Tidy earlier → Tidy (t ∷ earlier)
tidy_after t earlier following colon some found c has h =
    let f = next_fact (mode earlier) (t.lexeme ++ following) t.kind (length t.lexeme) some found in
    record {
      levels = levels_after t.kind t (mode earlier) (t.lexeme ++ following) (length t.lexeme) colon f c has h.levels;
      line = line_kept t.kind t (mode earlier) following (line_kind earlier) f h.line;
    }

-- ---- the text before the start of a line

pub record EndsInFeed (text : List ℕ) : Type 0 where
  pub front : List ℕ
  pub is : text ≡ front ++ (10 ∷ [])

-- the text is empty, or it ends in a line feed
abbrev pub Fed : List ℕ → Type 0
Fed text = (text ≡ []) ⊎ EndsInFeed text

-- a text with bytes ends in a line feed
pub feed_of : (text : List ℕ) → Fed text → 0 < length text → EndsInFeed text
feed_of text (inl e) some = absurd (omega (arith, some, ap length e))
feed_of text (inr h) some = h

pub fed_more : (text l : List ℕ) → EndsInFeed l → EndsInFeed (text ++ l)
fed_more text l h = record { front = text ++ h.front; is = ap (λ z. text ++ z) h.is ∙ sym (append_assoc text h.front (10 ∷ [])) }

last_feed : (l : List ℕ) → ends_in_line_feed l ≡ true → EndsInFeed l
last_feed [] h = cc
last_feed (x ∷ []) h = let e : x ≡ 10 = grind (arith, nat_tests) in record { front = []; is = ap (λ y. y ∷ []) e }
last_feed (x ∷ y ∷ l) h =
    let at : length (x ∷ y ∷ l) - 1 ≡ suc (length (y ∷ l) - 1) = omega arith in
    fed_more (x ∷ []) (y ∷ l) (last_feed (y ∷ l) (subst (λ n. eqb (get_or (x ∷ y ∷ l) n 0) 10 ≡ true) at h))

pub fed_suffix : (xs ys : List ℕ) → Fed (xs ++ ys) → Fed ys
fed_suffix [] ys h = h
fed_suffix (x ∷ xs) ys (inl e) = cc
fed_suffix (x ∷ xs) ys (inr h) = fed_suffix xs ys (by h.front h.is)
  where
    by : (w : List ℕ) → x ∷ xs ++ ys ≡ w ++ (10 ∷ []) → Fed (xs ++ ys)
    by [] e = inl (ap tail_of e)
    by (y ∷ w) e = inr (record { front = w; is = ap tail_of e })

-- a token after which a line starts ends in a line feed, or it is a dedent
fed_token : (k : TokenKind) (t : Tok) (m : Mode) (following text : List ℕ) → IsUtf8 (t.lexeme ++ following)
    → next m (t.lexeme ++ following) ≡ Ok (k, length t.lexeme)
    → (m.line_start ≡ true → Fed text) → (mode_after k t m).line_start ≡ true → Fed (text ++ t.lexeme)
fed_token kinds.Eol t m following text u e h s =
    let cut = token_cut m (t.lexeme ++ following) u kinds.Eol (length t.lexeme) e in
    let some : 0 < length t.lexeme = ⊎_elim (λ l. l) (λ none. absurd (⊎_elim (λ e. cc) (λ d. cc (d.0)) none)) cut.1 in
    inr (fed_more text t.lexeme (last_feed t.lexeme (sym (ap (λ b. eqb b 10) (get_or-append t.lexeme following 0 (length t.lexeme - 1) (omega (arith, some))))
    ∙ cut.2)))
fed_token kinds.Dedent t m following text u e h s =
    let cut = token_cut m (t.lexeme ++ following) u kinds.Dedent (length t.lexeme) e in
    subst Fed (sym (ap (λ l. text ++ l) (nil_from_length t.lexeme cut.2) ∙ append-nil text)) (h s)
fed_token kinds.Whitespace t m following text u e h s = inr (fed_more text t.lexeme (last_feed t.lexeme s))
fed_token _ t m following text u e h s = cc

-- where a line starts after these tokens, their text ends in a line feed, or there is none
fed_past : (ts : List Tok) (m : Mode) (rest text : List ℕ) → IsUtf8 rest → Runs m rest ts → (m.line_start ≡ true → Fed text)
    → (mode_past m ts).line_start ≡ true → Fed (text ++ flat_map lexeme ts)
fed_past [] m rest text u r h s = subst Fed (sym (append-nil text)) (h s)
fed_past (t ∷ ts) m rest text u r h s =
    subst Fed (append_assoc text t.lexeme (flat_map lexeme ts))
    (fed_past ts (mode_after t.kind t m) r.0 (text ++ t.lexeme) (rest_utf8 t ts m rest u r) r.3
    (fed_token t.kind t m r.0 text (subst IsUtf8 r.1 u) (sym (ap (next m) r.1) ∙ r.2) h) s)

pub fed_run : (ts : List Tok) (m : Mode) (rest : List ℕ) → IsUtf8 rest → Runs m rest ts → (mode_past m ts).line_start ≡ true → Fed (flat_map lexeme ts)
fed_run ts m rest u r s = fed_past ts m rest [] u r (λ _. inl refl) s
