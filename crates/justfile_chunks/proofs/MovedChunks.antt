-- The tokens of each chunk, moved to their places in the text, are those that the text has there, except that dedents can be elsewhere.
use Rattle.std.proofs.Common.{suc, ◌≡◌, ◌≢◌, ◌∙◌, ℕ, ◌+◌, ◌-◌, ◌<◌, Bool, true, false, List, [], ◌∷◌, ◌++◌, ◌⊎◌, inl, inr, length, map, Some, refl, sym, ap, subst, arith, append_assoc, append-nil, length-append}
use Rattle.std.specs.List.{AllByRecursion, AllZip, count_by}
use Rattle.std.specs.Str.{IsUtf8}
use Rattle.std.proofs.lemmas.List.{map-append, nil_from_length}
use Rattle.std.proofs.lemmas.List.Concat.{flat_map-append}
use Rattle.justfile_vocabulary.specs.declared.token_kind.TokenKind.TheVariants as kinds
use Rattle.justfile_model.specs.Lexing.Lexed.{Lexed, StandsAt}
use Rattle.justfile_model.specs.Lexing.Modes.{Mode, mode, mode_after}
use Rattle.justfile_model.specs.Lexing.Places.{column_at, is_line_feed, line_of_offset}
use Rattle.justfile_model.specs.Lexing.Tok.{Tok}
use Rattle.justfile_model.specs.Trees.Tree.{lexeme}
use Rattle.justfile_model.proofs.Lexing.LexedLaws.{one_list}
use Rattle.justfile_model.proofs.Lexing.NextLaws as next_law
use Rattle.justfile_model.proofs.Lexing.NextLaws.{EndsAt, token_cut}
use Rattle.justfile_round_trip.proofs.LiteralTexts.LexedModes.{Sign, sign, tok_at}
use Rattle.justfile_round_trip.proofs.Values.TokenFacts.{Runs}
use Rattle.justfile_chunks.specs.Chunks.{AreParts, Chunk, Parts, after_feed, chunks_of, first_chunk, later_chunk, moved, next_kind, text_of}
use Rattle.justfile_chunks.proofs.OtherDedents.{IsEmptyDedent, NearToken}
use Rattle.justfile_chunks.proofs.ChunkTokens.{Borders, Later, NextPart, Split, chunks_by, closed, first_part, from_start, next_part, onto, some_text, whole_is}
use Rattle.justfile_chunks.proofs.MovedPlaces.{AreMoved, IsMoved, Moves, Placed, after_text, all_moved, at_start, inside, last_moved, placed, placed_after, placed_front}
use Rattle.justfile_chunks.proofs.SameModes.{NoneIsEof, signs}
use Rattle.justfile_chunks.proofs.SameNext.{cons_parts}
use Rattle.justfile_chunks.proofs.SplitRuns.{rest_utf8}
use Rattle.justfile_chunks.proofs.TidyModes.{EndsInFeed, fed_more}

-- ---- the line feeds before chunks and the ends after them, where they are in the chunks, moved

abbrev pub in_text : Chunk → Tok → Tok
in_text chunk = moved chunk.offset chunk.line

abbrev end_of_chunk : Chunk → Tok
end_of_chunk chunk = in_text chunk (tok_at chunk.text (length chunk.text) (sign kinds.Eof []))

abbrev chunk_by : Bool → List Tok → Chunk
chunk_by true part = first_chunk part
chunk_by false part = later_chunk part

abbrev feed_sign : Sign
feed_sign = sign kinds.Eol (10 ∷ [])

abbrev pub borders : Borders
borders = record {
  feed = λ part. in_text (later_chunk part) (tok_at (after_feed part) 0 feed_sign);
  eof = λ first part. end_of_chunk (chunk_by first part);
  feed_kind = λ part. refl;
  feed_text = λ part. refl;
  eof_kind = λ first part. refl;
  eof_text = λ first part. refl;
}

-- The tokens of the chunk, moved, are these, except for dedents.
pub record NearChunk (chunk : Chunk) (tokens : List Tok) : Type 0 where
  pub near : (us : List Tok) → Lexed chunk.text us → signs us ≡ signs tokens → AllZip NearToken tokens (map (in_text chunk) us)

-- ---- tokens with bytes, and dedents

abbrev HasBytes : Tok → Type 0
HasBytes t = (0 < length t.lexeme) ⊎ IsEmptyDedent t

abbrev NextMoves : Mode → Tok → Type 0
NextMoves m t = next_law.Moves m t.kind (length t.lexeme)

bytes_of : (ts us : List Tok) (m : Mode) (x : List ℕ) → IsUtf8 x → Runs m x (ts ++ us) → NoneIsEof ts → AllByRecursion HasBytes ts
bytes_of [] us m x u r n = tt
bytes_of (t ∷ ts) us m x u r n =
    let cut = token_cut m x u t.kind (length t.lexeme) r.2 in
    (by cut.1 cut.2, bytes_of ts us (mode_after t.kind t m) r.0 (rest_utf8 t (ts ++ us) m x u r) r.3 n.1)
  where
    by : NextMoves m t → EndsAt x t.kind (length t.lexeme) → HasBytes t
    by (inl some) e = inl some
    by (inr (inl end)) e = absurd (n.0 end)
    by (inr (inr d)) e = inr (d.0, nil_from_length t.lexeme (subst (λ k. EndsAt x k (length t.lexeme)) d.0 e))

near_one : (offset line : ℕ) {t u : Tok} → IsMoved offset line t u → HasBytes t → NearToken t (moved offset line u)
near_one offset line m (inl some) = inl (m.place some)
near_one offset line m (inr d) = inr (d, (sym m.kind ∙ d.0, sym m.lexeme ∙ d.1))

near_itself : (ts us : List Tok) → ts ≡ us → AllZip NearToken ts us
near_itself ts us e = subst (AllZip NearToken ts) e (by ts)
  where
    by : (ts : List Tok) → AllZip NearToken ts ts
    by [] = tt
    by (t ∷ ts) = (inl refl, by ts)

-- the token that stands at an offset, and is this one
pub stands : (text : List ℕ) (k : ℕ) (u : Tok) (m : Sign) → StandsAt text k u → sign u.kind u.lexeme ≡ m → u ≡ tok_at text k m
stands text k u m s e = place ∙ ap (tok_at text k) e
  where
    place : u ≡ tok_at text k (sign u.kind u.lexeme)
    place = λ i. record {
      kind = u.kind;
      lexeme = u.lexeme;
      offset = s.offset_is i;
      line = (s.line_is ∙ ap (line_of_offset text) s.offset_is) i;
      column = (s.column_is ∙ ap (column_at text) s.offset_is) i;
    }

-- a part and the end of its chunk
module _ (c : Chunk) where
  abbrev end_at : ℕ → Tok
  end_at n = in_text c (tok_at c.text n (sign kinds.Eof []))

  near_end : (us : List Tok) (k : ℕ) → Placed c.text k us → signs us ≡ sign kinds.Eof [] ∷ [] → AllZip NearToken (end_at k ∷ []) (map (in_text c) us)
  near_end [] k p e = cc
  near_end (u ∷ us) k p e =
      let h = cons_parts (sign u.kind u.lexeme) (sign kinds.Eof []) (signs us) [] e in
      (inl (sym (ap (in_text c) (stands c.text k u (sign kinds.Eof []) p.0 h.0))), none us h.1)
    where
      none : (us : List Tok) → signs us ≡ [] → AllZip NearToken [] (map (in_text c) us)
      none [] e = tt
      none (w ∷ us) e = cc

  near_part : (part us : List Tok) (k : ℕ) → AreMoved c.offset c.line part us → AllByRecursion HasBytes part → Placed c.text k us
      → signs us ≡ signs part ++ (sign kinds.Eof [] ∷ [])
      → AllZip NearToken (part ++ (end_at (k + length (text_of part)) ∷ [])) (map (in_text c) us)
  near_part [] us k m b p e = subst (λ n. AllZip NearToken (end_at n ∷ []) (map (in_text c) us)) (omega arith) (near_end us k p e)
  near_part (t ∷ part) [] k m b p e = absurd m
  near_part (t ∷ part) (u ∷ us) k m b p e =
      let h = cons_parts (sign u.kind u.lexeme) (sign t.kind t.lexeme) (signs us) (signs part ++ (sign kinds.Eof [] ∷ [])) e in (
        near_one c.offset c.line m.0 b.0,
        subst (λ n. AllZip NearToken (part ++ (end_at n ∷ [])) (map (in_text c) us))
            (omega (arith, ap length m.0.lexeme, length-append t.lexeme (text_of part)))
            (near_part part us (k + length u.lexeme) m.1 b.1 p.1 h.1),
      )

signs_closed : (part : List Tok) (t : Tok) → signs (part ++ (t ∷ [])) ≡ signs part ++ (sign t.kind t.lexeme ∷ [])
signs_closed part t = map-append (λ (t : Tok). sign t.kind t.lexeme) part (t ∷ [])

-- ---- chunks

one_more : (n : ℕ) → 1 + n ≡ suc n
one_more n = omega arith

first_near : (text rest : List ℕ) (part : List Tok) → text ≡ text_of part ++ rest → Placed text 0 part → AllByRecursion HasBytes part
    → NearChunk (first_chunk part) (closed borders true part)
first_near text rest part is h bytes = record {
  near = λ us l e.
      let p = text_of part in
      let marked : signs us ≡ signs part ++ (sign kinds.Eof [] ∷ []) = e ∙ signs_closed part (end_of_chunk (first_chunk part)) in
      let whole : Placed (p ++ rest) 0 part = subst (λ x. Placed x 0 part) is h in
      let chunk : Placed (p ++ []) 0 us = subst (λ x. Placed x 0 us) (sym (append-nil p)) (placed p us l) in
      subst (λ n. AllZip NearToken (part ++ (end_at (first_chunk part) n ∷ [])) (map (in_text (first_chunk part)) us)) (omega arith)
      (near_part (first_chunk part) part us 0 (all_moved [] [] p rest [] 0 0 at_start part us (sign kinds.Eof [] ∷ []) 0 whole chunk marked (omega arith)) bytes
      (placed p us l) marked);
}

-- after a text that ends in a line feed
pub fed_moves : (before : List ℕ) → EndsInFeed before → Moves before (10 ∷ []) (length before - 1) (count_by is_line_feed before - 1)
fed_moves before feed = subst (λ x. Moves x (10 ∷ []) (length x - 1) (count_by is_line_feed x - 1)) (sym feed.is) (after_text feed.front)

module _ (text before rest : List ℕ) (t : Tok) (part : List Tok) (feed : EndsInFeed before) (is : text ≡ before ++ (text_of (t ∷ part) ++ rest))
    (h : Placed text (length before) (t ∷ part)) (some : 0 < length (text_of (t ∷ part))) where
  line_is : t.line ≡ count_by is_line_feed before
  unfolding line_of_offset
  line_is =
      h.0.line_is ∙ ap (λ n. line_of_offset text n) (h.0.offset_is ∙ omega arith) ∙ ap (λ x. line_of_offset x (length before + 0)) is
      ∙ ap (count_by is_line_feed) ((inside before (text_of (t ∷ part)) rest 0 some).is ∙ append-nil before)

  by_first : Moves before (10 ∷ []) (t.offset - 1) (t.line - 1)
  by_first =
      let moves = fed_moves before feed in
      subst (λ n. Moves before (10 ∷ []) n (t.line - 1)) (ap (λ n. n - 1) (sym h.0.offset_is))
      (subst (λ n. Moves before (10 ∷ []) (length before - 1) (n - 1)) (sym line_is) moves)

  in_whole : Placed (before ++ (text_of (t ∷ part) ++ rest)) (length before + 0) (t ∷ part)
  in_whole = subst (λ n. Placed (before ++ (text_of (t ∷ part) ++ rest)) n (t ∷ part)) (omega arith) (subst (λ x. Placed x (length before) (t ∷ part)) is h)

  in_chunk : (u : Tok) (us : List Tok) → Lexed (after_feed (t ∷ part)) (u ∷ us) → length u.lexeme ≡ 1 → Placed (10 ∷ (text_of (t ∷ part) ++ [])) (1 + 0) us
  in_chunk u us l one =
      let p = text_of (t ∷ part) in
      subst (λ x. Placed (10 ∷ x) (1 + 0) us) (sym (append-nil p)) (subst (λ n. Placed (10 ∷ p) n us) (omega (arith, one)) (placed (10 ∷ p) (u ∷ us) l).1)

  -- the line feed before the part, and the other tokens of the chunk
  near_feed : (us tokens : List Tok) → Lexed (after_feed (t ∷ part)) us → signs us ≡ feed_sign ∷ signs tokens
      → ((u : Tok) (others : List Tok) → Lexed (after_feed (t ∷ part)) (u ∷ others) → length u.lexeme ≡ 1 → signs others ≡ signs tokens
      → AllZip NearToken tokens (map (in_text (later_chunk (t ∷ part))) others))
      → AllZip NearToken (borders.feed (t ∷ part) ∷ tokens) (map (in_text (later_chunk (t ∷ part))) us)
  near_feed [] tokens l e more = cc
  near_feed (u ∷ us) tokens l e more =
      let h = cons_parts (sign u.kind u.lexeme) feed_sign (signs us) (signs tokens) e in (
        inl (sym (ap (in_text (later_chunk (t ∷ part)))
            (stands (after_feed (t ∷ part)) 0 u feed_sign (placed (after_feed (t ∷ part)) (u ∷ us) l).0 h.0))),
        more u us l (ap (λ (m : Sign). length m.lexeme) h.0) h.1,
      )

  later_near : AllByRecursion HasBytes (t ∷ part) → NearChunk (later_chunk (t ∷ part)) (borders.feed (t ∷ part) ∷ closed borders false (t ∷ part))
  later_near bytes = record {
    near = λ us l e. near_feed us (closed borders false (t ∷ part)) l e (λ u others l one marked.
        let p = text_of (t ∷ part) in
        let end : signs others ≡ signs (t ∷ part) ++ (sign kinds.Eof [] ∷ []) = marked ∙ signs_closed (t ∷ part) (end_of_chunk (later_chunk (t ∷ part))) in
        subst (λ n. AllZip NearToken (t ∷ part ++ (end_at (later_chunk (t ∷ part)) n ∷ [])) (map (in_text (later_chunk (t ∷ part))) others))
        (one_more (length p))
        (near_part (later_chunk (t ∷ part)) (t ∷ part) others 1
        (all_moved before (10 ∷ []) p rest [] (t.offset - 1) (t.line - 1) by_first (t ∷ part) others (sign kinds.Eof [] ∷ []) 0 in_whole
        (in_chunk u others l one) end (omega arith))
        bytes (subst (λ n. Placed (10 ∷ p) n others) (omega (arith, one)) (placed (10 ∷ p) (u ∷ others) l).1) end));
  }

last_near : (text before : List ℕ) (t : Tok) (part : List Tok) (feed : EndsInFeed before) (is : text ≡ before ++ (text_of (t ∷ part) ++ []))
    → (h : Placed text (length before) (t ∷ part)) (some : 0 < length (text_of (t ∷ part)))
    → NearChunk (later_chunk (t ∷ part)) (borders.feed (t ∷ part) ∷ t ∷ part)
last_near text before t part feed is h some = record {
  near = λ us l e. near_feed text before [] t part feed is h some us (t ∷ part) l e (λ u others l one marked.
      near_itself (t ∷ part) (map (moved (t.offset - 1) (t.line - 1)) others)
      (last_moved before (10 ∷ []) (text_of (t ∷ part)) (t.offset - 1) (t.line - 1) (by_first text before [] t part feed is h some) some (t ∷ part) others 0
      (in_whole text before [] t part feed is h some) (in_chunk text before [] t part feed is h some u others l one) marked (omega arith)));
}

-- a part after this text, up to a cut, and the tokens after it, where they are in the whole text
record PlacedPart (text before : List ℕ) (earlier part rest : List Tok) : Type 0 where
  next : NextPart earlier part rest
  text_is : text ≡ before ++ (text_of part ++ text_of rest)
  text_after : text ≡ (before ++ text_of part) ++ text_of rest
  place : Placed text (length before) part
  rest_place : Placed text (length (before ++ text_of part)) rest
  bytes : AllByRecursion HasBytes part

module _ (text : List ℕ) where
  placed_part : (before : List ℕ) (earlier later part : List Tok) (parts : List (List Tok)) → Later earlier later → (s : Split earlier later part parts)
      → text ≡ before ++ text_of later → Placed text (length before) later → PlacedPart text before earlier part s.rest
  placed_part before earlier later part parts h s is p =
      let n = next_part earlier later part parts h s in
      let places = subst (Placed text (length before)) s.is p in
      let whole = is ∙ ap (λ x. before ++ x) (ap text_of s.is ∙ flat_map-append lexeme part s.rest) in
      record {
        next = n;
        text_is = whole;
        text_after = whole ∙ sym (append_assoc before (text_of part) (text_of s.rest));
        place = placed_front text part s.rest (length before) places;
        rest_place =
            subst (λ n. Placed text n s.rest) (sym (length-append before (text_of part))) (placed_after text part s.rest (length before) places);
        bytes = bytes_of part s.rest (mode earlier) (text_of part ++ text_of s.rest) n.is_part.utf8 n.is_part.run n.is_part.no_eof;
      }

  all_near : (parts : List (List Tok)) (earlier later : List Tok) (before : List ℕ) → Later earlier later → Parts earlier later parts
      → next_kind later ≢ Some kinds.Eof → text ≡ before ++ text_of later
      → Placed text (length before) later → EndsInFeed before → AllZip NearChunk (map later_chunk parts) (chunks_by borders false parts)
  all_near [] earlier later before h p ne is pl f = absurd (first_part p)
  all_near (part ∷ []) earlier later before h p ne is pl f =
      let e : later ≡ part = first_part p in
      let bytes = some_text later (mode earlier) (text_of later) h.ends ne h.same.levels h.utf8 h.run in (
        last part (is ∙ ap (λ x. before ++ x) (ap text_of e ∙ sym (append-nil (text_of part)))) (subst (Placed text (length before)) e pl)
            (subst (λ x. 0 < length (text_of x)) e bytes),
        tt,
      )
    where
      last : (p : List Tok) → text ≡ before ++ (text_of p ++ []) → Placed text (length before) p → 0 < length (text_of p)
          → NearChunk (later_chunk p) (borders.feed p ∷ p)
      last [] is pl l = absurd (omega arith)
      last (t ∷ p) is pl l = last_near text before t p f is pl l
  all_near (part ∷ q ∷ parts) earlier later before h p ne is pl f =
      let s = first_part p in
      let n = placed_part before earlier later part (q ∷ parts) h s is pl in (
        inner part (text_of s.rest) n.text_is n.place n.next.bytes n.bytes,
        all_near (q ∷ parts) (onto earlier part) s.rest (before ++ text_of part) n.next.later s.others n.next.goes_on n.text_after n.rest_place
            (fed_more before (text_of part) n.next.feeds),
      )
    where
      inner : (p : List Tok) (rest : List ℕ) → text ≡ before ++ (text_of p ++ rest) → Placed text (length before) p → 0 < length (text_of p)
          → AllByRecursion HasBytes p → NearChunk (later_chunk p) (borders.feed p ∷ closed borders false p)
      inner [] rest is pl l b = absurd (omega arith)
      inner (t ∷ p) rest is pl l b = later_near text before rest t p f is pl l b

pub none_more : (n : ℕ) → 0 + n ≡ n
none_more n = omega arith

pub unmoved : (ts : List Tok) → map (moved 0 0) ts ≡ ts
unmoved [] = refl
unmoved (t ∷ ts) = λ i.
    (record { kind = t.kind; lexeme = t.lexeme; offset = none_more t.offset i; line = none_more t.line i; column = t.column }) ∷ unmoved ts i

-- the tokens of the chunks of a text are its tokens, moved
pub chunks_near : (text : List ℕ) (tokens : List Tok) (parts : List (List Tok)) → IsUtf8 text → Lexed text tokens → AreParts tokens parts
    → AllZip NearChunk (chunks_of parts) (chunks_by borders true parts)
chunks_near text tokens [] u l p = absurd (first_part p)
chunks_near text tokens (part ∷ []) u l p =
    let e : tokens ≡ part = first_part p in
    let here : Lexed (text_of part) part = subst (λ x. Lexed (text_of x) x) e (subst (λ x. Lexed x tokens) (sym (whole_is text tokens u l)) l) in
    (record { near = λ us k m. near_itself part (map (moved 0 0) us) (one_list (text_of part) part us here k ∙ sym (unmoved us)) }, tt)
chunks_near text tokens (part ∷ q ∷ parts) u l p =
    let s = first_part p in
    let n = placed_part text [] [] tokens part (q ∷ parts) (from_start text tokens u l) s (sym (whole_is text tokens u l)) (placed text tokens l) in (
      first_near text (text_of s.rest) part n.text_is n.place n.bytes,
      all_near text (q ∷ parts) (onto [] part) s.rest (text_of part) n.next.later s.others n.next.goes_on n.text_after n.rest_place n.next.feeds,
    )
