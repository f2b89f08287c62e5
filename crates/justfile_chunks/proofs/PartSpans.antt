-- The spans of the parts of a text.
use Rattle.std.proofs.Common.{◌≡◌, ◌∙◌, ℕ, ◌+◌, ◌-◌, ◌<◌, List, [], ◌∷◌, ◌++◌, length, map, take, drop, get_or, All, refl, sym, ap, subst, arith, append_assoc, length-append}
use Rattle.std.specs.List.{flat_map}
use Rattle.std.specs.Str.{IsCharBoundary, IsUtf8}
use Rattle.std.proofs.Math.Seq.{get_or-append_seam}
use Rattle.std.proofs.lemmas.List.{drop_at, take_at}
use Rattle.std.proofs.lemmas.List.Concat.{flat_map-append}
use Rattle.std.proofs.lemmas.List.Elements.{All-cons, All-nil}
use Rattle.std.proofs.lemmas.Str.{IsCharBoundary-after_ascii, IsCharBoundary-before_ascii, IsCharBoundary-end, IsCharBoundary-start}
use Rattle.justfile_token.specs.Slice.{slice_of}
use Rattle.justfile_model.specs.Lexing.Lexed.{Lexed}
use Rattle.justfile_model.specs.Lexing.Tok.{Tok}
use Rattle.justfile_model.specs.Trees.Tree.{lexeme}
use Rattle.justfile_chunks.specs.Chunks.{AreParts, Parts, after_feed, chunk_texts, text_of}
use Rattle.justfile_chunks.proofs.ChunkTokens.{whole_is}
use Rattle.justfile_chunks.proofs.MovedPlaces.{Placed, placed, placed_after}
use Rattle.justfile_chunks.proofs.TidyModes.{EndsInFeed, fed_more}
use Rattle.justfile_chunks.specs.declared.span.Span.{Span}
use Rattle.justfile_chunks.specs.Spans.{AreChunks, IsIn, Tile, end_after, span, span_of, text_from_feed, text_in, texts_in}
use Rattle.justfile_chunks.proofs.PartFeeds.{Feeds, feeds}

-- ---- spans, each from the end of the one before it

abbrev pub spans_from : ℕ → List (List Tok) → List Span
spans_from from [] = []
spans_from from (part ∷ parts) = span from (end_after from part) ∷ spans_from (end_after from part) parts

abbrev pub end_of_parts : ℕ → List (List Tok) → ℕ
end_of_parts from [] = from
end_of_parts from (part ∷ parts) = end_of_parts (end_after from part) parts

pub spans_push : (from : ℕ) (done : List (List Tok)) (part : List Tok) → spans_from from (done ++ (part ∷ [])) ≡ spans_from from done ++ (span (end_of_parts from done) (end_after (end_of_parts from done) part) ∷ [])
spans_push from [] part = refl
spans_push from (p ∷ done) part = ap (λ l. span from (end_after from p) ∷ l) (spans_push (end_after from p) done part)

pub end_push : (from : ℕ) (done : List (List Tok)) (part : List Tok) → end_of_parts from (done ++ (part ∷ [])) ≡ end_after (end_of_parts from done) part
end_push from [] part = refl
end_push from (p ∷ done) part = end_push (end_after from p) done part

pub end_last : (from : ℕ) (ts : List Tok) (t : Tok) → end_after from (ts ++ (t ∷ [])) ≡ t.offset + length t.lexeme
end_last from [] t = refl
end_last from (u ∷ ts) t = end_last (u.offset + length u.lexeme) ts t

-- ---- parts

-- the parts, joined
abbrev pub all_of : List (List Tok) → List Tok
all_of parts = flat_map (λ part. part) parts

abbrev pub NoneEmpty : List (List Tok) → Type 0
NoneEmpty [] = Unit {0}
NoneEmpty (part ∷ parts) = (0 < length part) × NoneEmpty parts

pub parts_join : {earlier later : List Tok} {parts : List (List Tok)} → Parts earlier later parts → all_of parts ≡ later
parts_join Parts.last = refl
parts_join (Parts.cut {t = t} c rest) = ap (λ l. t ∷ l) (parts_join rest)
parts_join (Parts.uncut {t = t} u rest) = ap (λ l. t ∷ l) (parts_join rest)

pub none_empty : {earlier later : List Tok} {parts : List (List Tok)} → Parts earlier later parts → NoneEmpty parts
none_empty Parts.last = (omega arith, tt)
none_empty (Parts.cut c rest) = (omega arith, none_empty rest)
none_empty (Parts.uncut u rest) = (omega arith, (none_empty rest).1)

-- ---- places

slice_at : (text a b c : List ℕ) (n m : ℕ) → text ≡ a ++ (b ++ c) → length a ≡ n → length b ≡ m → slice_of text n m ≡ b
slice_at text a b c n m e k l = ap (λ x. take m (drop n x)) e ∙ ap (take m) (drop_at a (b ++ c) n k) ∙ take_at b c m l

module _ (text : List ℕ) where
  ends_at : (part rest : List Tok) (n : ℕ) → Placed text n (part ++ rest) → end_after n part ≡ n + length (text_of part)
  ends_at [] rest n p = omega arith
  ends_at (t ∷ part) rest n p =
      ap (λ k. end_after (k + length t.lexeme) part) p.0.offset_is ∙ ends_at part rest (n + length t.lexeme) p.1 ∙ omega (arith, length-append t.lexeme (text_of part))

  placed_rest : (part : List Tok) (parts : List (List Tok)) (n : ℕ) → Placed text n (all_of (part ∷ parts)) → Placed text (end_after n part) (all_of parts)
  placed_rest part parts n p = subst (λ k. Placed text k (all_of parts)) (sym (ends_at part (all_of parts) n p)) (placed_after text part (all_of parts) n p)

  pub are_spans : (n : ℕ) (parts : List (List Tok)) → NoneEmpty parts → Placed text n (all_of parts) → spans_from n parts ≡ map span_of parts
  are_spans n [] s p = refl
  are_spans n ([] ∷ parts) s p = absurd (omega (arith, s.0))
  are_spans n ((t ∷ part) ∷ parts) s p =
      let more = are_spans (end_after n (t ∷ part)) parts s.1 (placed_rest (t ∷ part) parts n p) in
      λ i. span (sym p.0.offset_is i) (end_after n (t ∷ part)) ∷ more i

  size_is : (part : List Tok) (parts : List (List Tok)) → length (text_of (all_of (part ∷ parts))) ≡ length (text_of part) + length (text_of (all_of parts))
  size_is part parts = ap length (flat_map-append lexeme part (all_of parts)) ∙ length-append (text_of part) (text_of (all_of parts))

  they_tile : (n to : ℕ) (parts : List (List Tok)) → Placed text n (all_of parts) → n + length (text_of (all_of parts)) ≡ to → Tile n to (spans_from n parts)
  they_tile n to [] p e = omega (arith, e)
  they_tile n to (part ∷ parts) p e =
      let end = ends_at part (all_of parts) n p in
      (refl, they_tile (end_after n part) to parts (placed_rest part parts n p) (omega (arith, end, e, size_is part parts)))

  text_at : (before : List ℕ) (part : List Tok) (parts : List (List Tok)) → text ≡ before ++ text_of (all_of (part ∷ parts)) → text ≡ before ++ (text_of part ++ text_of (all_of parts))
  text_at before part parts e = e ∙ ap (λ x. before ++ x) (flat_map-append lexeme part (all_of parts))

  text_past : (before : List ℕ) (part : List Tok) (parts : List (List Tok)) → text ≡ before ++ text_of (all_of (part ∷ parts)) → text ≡ (before ++ text_of part) ++ text_of (all_of parts)
  text_past before part parts e = text_at before part parts e ∙ sym (append_assoc before (text_of part) (text_of (all_of parts)))

  from_feed : (before : List ℕ) (part : List Tok) (parts : List (List Tok)) (n : ℕ) → EndsInFeed before → length before ≡ n → text ≡ before ++ text_of (all_of (part ∷ parts)) → Placed text n (all_of (part ∷ parts))
      → text_from_feed text (span n (end_after n part)) ≡ after_feed part
  from_feed before part parts n f k e p =
      let feed : before ++ (text_of part ++ text_of (all_of parts)) ≡ f.front ++ (after_feed part ++ text_of (all_of parts)) =
      ap (λ x. x ++ (text_of part ++ text_of (all_of parts))) f.is ∙ append_assoc f.front (10 ∷ []) (text_of part ++ text_of (all_of parts)) in
      let size : length before ≡ length f.front + 1 = ap length f.is ∙ length-append f.front (10 ∷ []) in
      slice_at text f.front (after_feed part) (text_of (all_of parts)) (n - 1) (end_after n part - (n - 1)) (text_at before part parts e ∙ feed) (omega (arith, size, k)) (omega (arith, ends_at part (all_of parts) n p, size, k))

  later_texts : (before : List ℕ) (n : ℕ) (parts : List (List Tok)) → EndsInFeed before → length before ≡ n → text ≡ before ++ text_of (all_of parts) → Placed text n (all_of parts) → Feeds parts
      → map (text_from_feed text) (spans_from n parts) ≡ map after_feed parts
  later_texts before n [] f k e p fs = refl
  later_texts before n (part ∷ []) f k e p fs = ap (λ x. x ∷ []) (from_feed before part [] n f k e p)
  later_texts before n (part ∷ q ∷ parts) f k e p fs =
      let size : length (before ++ text_of part) ≡ end_after n part = omega (arith, length-append before (text_of part), k, ends_at part (all_of (q ∷ parts)) n p) in
      let more = later_texts (before ++ text_of part) (end_after n part) (q ∷ parts) (fed_more before (text_of part) fs.0) size (text_past before part (q ∷ parts) e) (placed_rest part (q ∷ parts) n p) fs.1 in
      λ i. from_feed before part (q ∷ parts) n f k e p i ∷ more i

  first_text : (part : List Tok) (parts : List (List Tok)) → text ≡ text_of (all_of (part ∷ parts)) → Placed text 0 (all_of (part ∷ parts)) → text_in text (span 0 (end_after 0 part)) ≡ text_of part
  first_text part parts e p = slice_at text [] (text_of part) (text_of (all_of parts)) 0 (end_after 0 part - 0) (text_at [] part parts e) refl (omega (arith, ends_at part (all_of parts) 0 p))

  pub are_texts : (parts : List (List Tok)) → text ≡ text_of (all_of parts) → Placed text 0 (all_of parts) → Feeds parts → texts_in text (spans_from 0 parts) ≡ chunk_texts parts
  are_texts [] e p fs = refl
  are_texts (part ∷ []) e p fs = ap (λ x. x ∷ []) (first_text part [] e p)
  are_texts (part ∷ q ∷ parts) e p fs =
      let size : length (text_of part) ≡ end_after 0 part = omega (arith, ends_at part (all_of (q ∷ parts)) 0 p) in
      let more = later_texts (text_of part) (end_after 0 part) (q ∷ parts) fs.0 size (text_past [] part (q ∷ parts) e) (placed_rest part (q ∷ parts) 0 p) fs.1 in
      λ i. first_text part (q ∷ parts) e p i ∷ more i

  -- after a line feed the text may be cut, and so before it
  cut_at : IsUtf8 text → (before rest : List ℕ) → text ≡ before ++ rest → EndsInFeed before → IsCharBoundary text (length before) × IsCharBoundary text (length before - 1)
  cut_at u before rest e f =
      let feed : text ≡ f.front ++ (10 ∷ rest) = e ∙ ap (λ x. x ++ rest) f.is ∙ append_assoc f.front (10 ∷ []) rest in
      let size : length before ≡ length f.front + 1 = ap length f.is ∙ length-append f.front (10 ∷ []) in
      let within : length f.front < length text = omega (arith, ap length feed, length-append f.front (10 ∷ rest)) in
      let byte : get_or text (length f.front) 0 < 128 = omega (arith, ap (λ x. get_or x (length f.front) 0) feed, get_or-append_seam f.front 10 rest 0) in (
        subst (IsCharBoundary text) (sym size) (IsCharBoundary-after_ascii text (length f.front) u within byte),
        subst (IsCharBoundary text) (omega (arith, size)) (IsCharBoundary-before_ascii text (length f.front) within byte),
      )

  is_in : (part rest : List Tok) (n : ℕ) → Placed text n (part ++ rest) → IsCharBoundary text n → IsCharBoundary text (n - 1) → IsCharBoundary text (end_after n part) → IsIn text (span n (end_after n part))
  is_in part rest n p from before to = record { forward = omega (arith, ends_at part rest n p); from = from; from_feed = before; to = to }

  are_in : IsUtf8 text → (before : List ℕ) (parts : List (List Tok)) → IsCharBoundary text (length before) → IsCharBoundary text (length before - 1) → text ≡ before ++ text_of (all_of parts)
      → Placed text (length before) (all_of parts) → Feeds parts → All (IsIn text) (spans_from (length before) parts)
  are_in u before [] from feed e p fs = All-nil (IsIn text)
  are_in u before (part ∷ []) from feed e p fs =
      let n = length before in
      let end : length text ≡ end_after n part = omega (arith, ap length e, length-append before (text_of (all_of (part ∷ []))), size_is part [], ends_at part [] n p) in
      All-cons (IsIn text) (span n (end_after n part)) [] (is_in part [] n p from feed (subst (IsCharBoundary text) end (IsCharBoundary-end text))) (All-nil (IsIn text))
  are_in u before (part ∷ q ∷ parts) from feed e p fs =
      let n = length before in
      let later = all_of (q ∷ parts) in
      let size : length (before ++ text_of part) ≡ end_after n part = omega (arith, length-append before (text_of part), ends_at part later n p) in
      let cut = cut_at u (before ++ text_of part) (text_of later) (text_past before part (q ∷ parts) e) (fed_more before (text_of part) fs.0) in
      let more = are_in u (before ++ text_of part) (q ∷ parts) cut.0 cut.1 (text_past before part (q ∷ parts) e) (subst (λ k. Placed text k later) (sym size) (placed_rest part (q ∷ parts) n p)) fs.1 in
      All-cons (IsIn text) (span n (end_after n part)) (spans_from (end_after n part) (q ∷ parts)) (is_in part later n p from feed (subst (IsCharBoundary text) size cut.0))
      (subst (λ k. All (IsIn text) (spans_from k (q ∷ parts))) size more)

  -- spans from the start on, one for each part, are those of the chunks
  pub are_chunks : (tokens : List Tok) (parts : List (List Tok)) (spans : List Span) → IsUtf8 text → Lexed text tokens → AreParts tokens parts → spans ≡ spans_from 0 parts → AreChunks text tokens spans
  are_chunks tokens parts spans u l a e =
      let places : Placed text 0 (all_of parts) = subst (Placed text 0) (sym (parts_join a)) (placed text tokens l) in
      let whole : text ≡ text_of (all_of parts) = sym (whole_is text tokens u l) ∙ ap text_of (sym (parts_join a)) in
      let ends : Feeds parts = feeds text tokens parts u l a in
      record {
        parts = parts;
        are_parts = a;
        spans_are = e ∙ are_spans 0 parts (none_empty a) places;
        tile = subst (Tile 0 (length text)) (sym e) (they_tile 0 (length text) parts places (omega (arith, ap length whole)));
        are_in = subst (All (IsIn text)) (sym e) (are_in u [] parts (IsCharBoundary-start text u) (IsCharBoundary-start text u) whole places ends);
        texts_are = ap (texts_in text) e ∙ are_texts parts whole places ends;
      }
