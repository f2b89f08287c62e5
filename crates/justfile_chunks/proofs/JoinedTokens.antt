-- The tokens of a joined text: those of the one text before a cut, and those of the other after a cut, moved.
use Rattle.std.proofs.Common.{◌≡◌, ◌∙◌, ℕ, ◌+◌, ◌-◌, ◌<◌, false, List, [], ◌∷◌, ◌++◌, inr, length, map, take, refl, sym, ap, subst, arith, append_assoc, append-nil, length-append}
use Rattle.std.specs.List.{count_by}
use Rattle.std.specs.Str.{IsUtf8}
use Rattle.justfile_model.specs.Lexing.Lexed.{Lexed}
use Rattle.justfile_model.specs.Lexing.Modes.{Mode, mode, mode_after, start_mode}
use Rattle.justfile_model.specs.Lexing.Places.{column_at, is_line_feed, last_line_start, line_of_offset, text_before}
use Rattle.justfile_model.specs.Lexing.Tok.{Tok, tok}
use Rattle.justfile_model.proofs.Lexing.LexedLaws.{from_follows}
use Rattle.justfile_round_trip.proofs.LiteralTexts.FormatScans.{same_front}
use Rattle.justfile_round_trip.proofs.LiteralTexts.LexedModes.{LexesIn, Sign, follows, sign, tok_at, toks}
use Rattle.justfile_round_trip.proofs.Values.TokenFacts.{Runs}
use Rattle.justfile_chunks.specs.Chunks.{moved, text_of}
use Rattle.justfile_chunks.proofs.Colons.{IndentsHaveColons}
use Rattle.justfile_chunks.proofs.ChunkTokens.{Later, signs_toks, no_colon}
use Rattle.justfile_chunks.proofs.JoinedNext.{IsDark, joined_next}
use Rattle.justfile_chunks.proofs.MovedChunks.{none_more, stands}
use Rattle.justfile_chunks.proofs.MovedPlaces.{Moves, Placed, inside, last_moved, placed, placed_after}
use Rattle.justfile_chunks.proofs.PartLexes.{but_last, last_lexes, last_signs}
use Rattle.justfile_chunks.proofs.SameModes.{NoneIsEof, signs, mode_past}
use Rattle.justfile_chunks.proofs.SameNext.{SameMode, cons_parts}
use Rattle.justfile_chunks.proofs.SplitRuns.{rest_utf8}
use Rattle.justfile_chunks.proofs.TidyModes.{EndsInFeed, Fed, fed_suffix}

-- ---- before the cut

module _ (d : ℕ) (dark : IsDark d) (v x : List ℕ) where
  -- the tokens before the byte are those of the joined text
  runs_joined : (ts : List Tok) (m : Mode) → IsUtf8 (text_of ts ++ (d ∷ v)) → Fed (text_of ts) → NoneIsEof ts → Runs m (text_of ts ++ (d ∷ v)) ts
      → Runs m (text_of ts ++ (d ∷ x)) ts
  runs_joined [] m u f n r = tt
  runs_joined (t ∷ ts) m u f n r =
      let following : r.0 ≡ text_of ts ++ (d ∷ v) = (same_front t.lexeme r.0 t.lexeme (text_of ts ++ (d ∷ v)) (sym r.1
      ∙ append_assoc t.lexeme (text_of ts) (d ∷ v)) refl).1 in (
        text_of ts ++ (d ∷ x),
        append_assoc t.lexeme (text_of ts) (d ∷ x),
        joined_next d dark m v x t.kind (length t.lexeme) n.0 (text_of (t ∷ ts)) f u (omega (arith, length-append t.lexeme (text_of ts))) r.2,
        runs_joined ts (mode_after t.kind t m) (subst IsUtf8 following (rest_utf8 t ts m (text_of (t ∷ ts) ++ (d ∷ v)) u r))
            (fed_suffix t.lexeme (text_of ts) f) n.1 (subst (λ y. Runs (mode_after t.kind t m) y ts) following r.3),
      )

-- each token is at its place in the text
abbrev Standing : List ℕ → ℕ → List Tok → Type 0
Standing text offset [] = Unit {0}
Standing text offset (t ∷ ts) = (t ≡ tok_at text offset (sign t.kind t.lexeme)) × Standing text (offset + length t.lexeme) ts

before_is : (p r : List ℕ) (k : ℕ) → k < length p → text_before (p ++ r) k ≡ take k p
before_is p r k l = subst (λ n. text_before (p ++ r) n ≡ take k p) (none_more k) (inside [] p r k l).is

module _ (p r s : List ℕ) where
  line_same : (k : ℕ) → k < length p → line_of_offset (p ++ r) k ≡ line_of_offset (p ++ s) k
  unfolding line_of_offset
  line_same k l = ap (count_by is_line_feed) (before_is p r k l ∙ sym (before_is p s k l))

  column_same : (k : ℕ) → k < length p → column_at (p ++ r) k ≡ column_at (p ++ s) k
  unfolding column_at
  column_same k l = ap (λ y. k - last_line_start y) (before_is p r k l ∙ sym (before_is p s k l))

  -- tokens that end before the end of a front stand in all texts with that front
  standing : (ts : List Tok) (k : ℕ) → Placed (p ++ r) k ts → k + length (text_of ts) < length p → Standing (p ++ s) k ts
  standing [] k h l = tt
  standing (t ∷ ts) k h l =
      let here : k < length p = omega (arith, l, length-append t.lexeme (text_of ts)) in (
        stands (p ++ r) k t (sign t.kind t.lexeme) h.0 refl ∙ (λ i. tok t.kind t.lexeme k (line_same k here i) (column_same k here i)),
        standing ts (k + length t.lexeme) h.1 (omega (arith, l, length-append t.lexeme (text_of ts))),
      )

module _ (text rest : List ℕ) (ms : List Sign) where
  front_lexes : (ts : List Tok) (m : Mode) (offset : ℕ) → Runs m (text_of ts ++ rest) ts → NoneIsEof ts → Standing text offset ts
      → LexesIn text (offset + length (text_of ts)) (mode_past m ts) rest ms → LexesIn text offset m (text_of ts ++ rest) (signs ts ++ ms)
  front_lexes [] m offset r n s h = subst (λ k. LexesIn text k m rest ms) (omega arith) h
  front_lexes (t ∷ ts) m offset r n s h =
      let following : r.0 ≡ text_of ts ++ rest = (same_front t.lexeme r.0 t.lexeme (text_of ts ++ rest) (sym r.1
      ∙ append_assoc t.lexeme (text_of ts) rest) refl).1 in
      let size : (offset + length t.lexeme) + length (text_of ts) ≡ offset + length (text_of (t ∷ ts)) = omega (
        arith,
        length-append t.lexeme (text_of ts),
      ) in (
        text_of ts ++ rest,
        append_assoc t.lexeme (text_of ts) rest,
        r.2,
        n.0,
        subst (λ u. LexesIn text (offset + length t.lexeme) (mode_after t.kind u m) (text_of ts ++ rest) (signs ts ++ ms)) s.0
            (front_lexes ts (mode_after t.kind t m) (offset + length t.lexeme) (subst (λ y. Runs (mode_after t.kind t m) y ts) following r.3) n.1 s.1
            (subst (λ k. LexesIn text k (mode_past m (t ∷ ts)) rest ms) (sym size) h)),
      )

  front_toks : (ts : List Tok) (offset : ℕ) → Standing text offset ts → toks text offset (signs ts ++ ms) ≡ ts ++ toks text (offset + length (text_of ts)) ms
  front_toks [] offset s = ap (λ k. toks text k ms) (omega arith)
  front_toks (t ∷ ts) offset s =
      let size : (offset + length t.lexeme) + length (text_of ts) ≡ offset + length (text_of (t ∷ ts)) = omega (
        arith,
        length-append t.lexeme (text_of ts),
      ) in
      λ i. sym s.0 i ∷ (front_toks ts (offset + length t.lexeme) s.1 ∙ ap (λ k. ts ++ toks text k ms) size) i

-- ---- after the cut

text_signs : (ts us : List Tok) → signs ts ≡ signs us → text_of ts ≡ text_of us
text_signs [] [] e = refl
text_signs (t ∷ ts) (u ∷ us) e =
    let h = cons_parts (sign t.kind t.lexeme) (sign u.kind u.lexeme) (signs ts) (signs us) e in
    λ i. (h.0 i).lexeme ++ text_signs ts us h.1 i
text_signs _ _ e = cc

-- tokens of a text after its front, and those of their text after a line feed
module _ (text front : List ℕ) (ts us : List Tok) (offset line : ℕ) (moves : Moves front (10 ∷ []) offset line) (some : 0 < length (text_of ts))
    (is : text ≡ front ++ text_of ts) (there : Placed text (length front) ts) (here : Placed (10 ∷ text_of ts) 1 us) (same : signs us ≡ signs ts) where
  rest_moved : ts ≡ map (moved offset line) us
  rest_moved =
      let whole : text ≡ front ++ (text_of ts ++ []) = is ∙ ap (λ x. front ++ x) (sym (append-nil (text_of ts))) in
      last_moved front (10 ∷ []) (text_of ts) offset line moves some ts us 0
      (subst (λ n. Placed (front ++ (text_of ts ++ [])) n ts) (omega arith) (subst (λ x. Placed x (length front) ts) whole there))
      (subst (λ x. Placed (10 ∷ x) 1 us) (sym (append-nil (text_of ts))) here) same (omega arith)

-- Tokens before a cut in the left text; a byte after it, the other bytes of the left text and those after it in the right text; and the tokens of
-- the right text, which begins with that byte, after a line feed.
module _ (offset line : ℕ) (d : ℕ) (dark : IsDark d) (v x : List ℕ) (front earlier rest : List Tok) (rest_is : text_of rest ≡ d ∷ x)
    (utf8 : IsUtf8 (text_of front ++ (d ∷ v))) (fed : EndsInFeed (text_of front)) (no_eof : NoneIsEof front)
    (run : Runs start_mode (text_of front ++ (d ∷ v)) front) (ended : SameMode (mode_past start_mode front) start_mode)
    (left_places : Placed (text_of front ++ (d ∷ v)) 0 front) (later : Later earlier rest) (colons : IndentsHaveColons false rest)
    (right_places : Placed (10 ∷ text_of rest) 1 rest) (moves : Moves (text_of front) (10 ∷ []) offset line) where
  abbrev text : List ℕ
  text = text_of front ++ (d ∷ x)

  abbrev ms : List Sign
  ms = signs (but_last rest)

  front_stands : Standing text 0 front
  front_stands =
      subst (λ y. Standing y 0 front) (append_assoc (text_of front) (d ∷ []) x)
      (standing (text_of front ++ (d ∷ [])) v x front 0
      (subst (λ y. Placed y 0 front) (sym (append_assoc (text_of front) (d ∷ []) v)) left_places)
      (omega (arith, length-append (text_of front) (d ∷ []))))

  rest_lexes : LexesIn text (0 + length (text_of front)) (mode_past start_mode front) (d ∷ x) ms
  rest_lexes =
      subst (λ y. LexesIn text (0 + length (text_of front)) (mode_past start_mode front) y ms) rest_is
      (last_lexes rest (mode earlier) (mode_past start_mode front) false (alike later.same ended) (no_colon (mode earlier) (mode_past start_mode front))
      colons later.ends later.empty later.run text (0 + length (text_of front)))
    where
      alike : {m n : Mode} → SameMode m start_mode → SameMode n start_mode → SameMode m n
      alike h k = search (h, k)

  whole_lexes : LexesIn text 0 start_mode text (signs front ++ ms)
  whole_lexes = front_lexes text (d ∷ x) ms front start_mode 0 (runs_joined d dark v x front start_mode utf8 (inr fed) no_eof run) no_eof front_stands rest_lexes

  abbrev others : List Tok
  others = toks text (0 + length (text_of front)) ms

  lexed_text : Lexed text (front ++ others)
  lexed_text =
      subst (Lexed text) (front_toks text (d ∷ x) ms front 0 front_stands)
      (from_follows text [] (toks text 0 (signs front ++ ms)) tt (follows text (signs front ++ ms) [] start_mode 0 text refl refl refl whole_lexes))

  others_signs : signs others ≡ signs rest
  others_signs = signs_toks text (0 + length (text_of front)) ms ∙ sym (last_signs rest later.ends later.empty)

  others_text : text_of others ≡ text_of rest
  others_text = text_signs others rest others_signs

  others_are : others ≡ map (moved offset line) rest
  others_are =
      rest_moved text (text_of front) others rest offset line moves (omega (arith, ap length others_text, ap length rest_is))
      (ap (λ y. text_of front ++ y) (sym (others_text ∙ rest_is)))
      (subst (λ n. Placed text n others) (none_more (length (text_of front))) (placed_after text front others 0 (placed text (front ++ others) lexed_text)))
      (subst (λ y. Placed (10 ∷ y) 1 rest) (sym others_text) right_places) (sym others_signs)

  -- the tokens of the joined text
  pub joined_tokens : Lexed text (front ++ map (moved offset line) rest)
  joined_tokens = subst (λ ts. Lexed text (front ++ ts)) others_are lexed_text
