-- The chunks, as a loop over the tokens finds them.
use Rattle.std.proofs.Common.{◌≡◌, ◌∙◌, ℕ, suc, ◌+◌, ◌-◌, ◌<◌, ◌≤◌, Bool, true, false, List, [], ◌∷◌, ◌++◌, length, map, take, drop, get_or, Option, None, refl, sym, ap, subst, add-one, arith, append_assoc, length-append}
use Rattle.std.proofs.Math.Seq.{drop-cons, get_or-append_seam}
use Rattle.std.specs.Str.{IsUtf8}
use Rattle.std.proofs.lemmas.List.{drop_all, get_or_append_left, length-drop, length-take-le, take_all}
use Rattle.justfile_vocabulary.specs.declared.token_kind.TokenKind.{TokenKind}
use Rattle.justfile_token.specs.declared.token.Token.{Token}
use Rattle.justfile_token.specs.Slice.{slice_of}
use Rattle.justfile_model.specs.Lexing.Lexed.{Lexed}
use Rattle.justfile_model.specs.Lexing.Modes.{mode}
use Rattle.justfile_model.specs.Lexing.Tok.{Tok, tok_of}
use Rattle.justfile_chunks.specs.Chunks.{AreParts, IsCut, Parts, line_kind, next_kind}
use Rattle.justfile_chunks.specs.declared.span.Span.{Span}
use Rattle.justfile_chunks.specs.Cuts.{depth_after, is_cut, line_after}
use Rattle.justfile_chunks.specs.Spans.{AreChunks, end_after, span}
use Rattle.justfile_chunks.proofs.CutTests.{cut_by, cut_holds, depth_grows, levels_are, line_is}
use Rattle.justfile_chunks.proofs.PartSpans.{are_chunks, end_last, end_of_parts, end_push, spans_from, spans_push}

-- What is known before the token of an index: the parts that are done, of which these are the spans, and the tokens of the current one. With
-- parts of the tokens from there on, of which the first one goes on with the current one, they are parts of all tokens.
pub record ChunksTo (tokens : List Token) (n : ℕ) (spans : List Span) (start depth : ℕ) (line : Option TokenKind) : Type 0 where
  pub done : List (List Tok)
  pub current : List Tok
  pub earlier : List Tok
  pub whole : (part : List Tok) (parts : List (List Tok)) → Parts earlier (map tok_of (drop n tokens)) (part ∷ parts) → AreParts (map tok_of tokens) (done ++ ((current ++ part) ∷ parts))
  pub spans_are : spans ≡ spans_from 0 done
  pub start_is : start ≡ end_of_parts 0 done
  pub depth_is : depth ≡ length (mode earlier).levels
  pub line_is : line ≡ line_kind earlier
  pub depth_within : depth ≤ n

pub at_first : (tokens : List Token) → ChunksTo tokens 0 [] 0 0 None
at_first tokens = record {
  done = [];
  current = [];
  earlier = [];
  whole = λ part parts p. p;
  spans_are = refl;
  start_is = refl;
  depth_is = refl;
  line_is = refl;
  depth_within = omega arith;
}

pub same : (tokens : List Token) (n : ℕ) (spans spans' : List Span) (start start' depth depth' : ℕ) (line line' : Option TokenKind) → spans ≡ spans' → start ≡ start' → depth ≡ depth' → line ≡ line'
    → ChunksTo tokens n spans' start' depth' line' → ChunksTo tokens n spans start depth line
same tokens n spans spans' start start' depth depth' line line' e f g k h = record {
  done = h.done;
  current = h.current;
  earlier = h.earlier;
  whole = h.whole;
  spans_are = e ∙ h.spans_are;
  start_is = f ∙ h.start_is;
  depth_is = g ∙ h.depth_is;
  line_is = k ∙ h.line_is;
  depth_within = omega (arith, g, h.depth_within);
}

split : (tokens : List Token) (index : ℕ) (t : Token) → index < length tokens → t ≡ get_or tokens index t → drop index tokens ≡ t ∷ drop (index + 1) tokens
split tokens index t h is = rw add-one (drop-cons tokens index t h ∙ ap (λ (x : Token). x ∷ drop (suc index) tokens) (sym is))

-- the tokens after an index, as a slice of them
pub rest_is : (tokens : List Token) (n : ℕ) → take (length tokens - n) (drop n tokens) ≡ drop n tokens
rest_is tokens n = take_all (length tokens - n) (drop n tokens) (omega (arith, length-drop n tokens))

-- a token before the last one, and the last one
module _ (tokens others : List Token) (last : Token) (are : tokens ≡ others ++ (last ∷ [])) (n : ℕ) where
  size : length tokens ≡ length others + 1
  size = ap length are ∙ length-append others (last ∷ [])

  pub among : (t : Token) → n < length others → t ≡ get_or others n t → (n < length tokens) × (t ≡ get_or tokens n t)
  among t h is = (omega (arith, size), is ∙ sym (get_or_append_left others (last ∷ []) t n h) ∙ ap (λ l. get_or l n t) (sym are))

  at_last : n ≡ length others → (n < length tokens) × (last ≡ get_or tokens n last) × (length tokens ≤ n + 1)
  at_last e = (omega (arith, size, e), sym (ap (λ l. get_or l n last) are ∙ ap (λ k. get_or (others ++ (last ∷ [])) k last) e ∙ get_or-append_seam others last [] last), omega (arith, size, e))

-- where the token ends
pub end_is : (t : Token) → t.offset + length (slice_of t.src.now t.offset t.length) ≡ t.offset + t.length
end_is t = ap (λ n. t.offset + n) (length-take-le t.length (drop t.offset t.src.now) (omega (arith, t.in_source.0, length-drop t.offset t.src.now)))

module _ (tokens : List Token) (n : ℕ) (spans : List Span) (start depth : ℕ) (line : Option TokenKind) (so_far : ChunksTo tokens n spans start depth line) (t : Token) (below : n < length tokens) (is : t ≡ get_or tokens n t) where
  abbrev later : List Tok
  later = map tok_of (drop (n + 1) tokens)

  abbrev test : Bool
  test = is_cut t.kind (depth_after t.kind depth) line (next_kind later)

  abbrev extended : List Tok
  extended = so_far.current ++ (tok_of t ∷ [])

  depth_is : depth_after t.kind depth ≡ length (mode (tok_of t ∷ so_far.earlier)).levels
  depth_is = ap (depth_after t.kind) so_far.depth_is ∙ levels_are t.kind (tok_of t) (mode so_far.earlier)

  kind_is : line_after t.kind line ≡ line_kind (tok_of t ∷ so_far.earlier)
  kind_is = ap (line_after t.kind) so_far.line_is ∙ line_is t.kind (line_kind so_far.earlier)

  test_is : test ≡ is_cut t.kind (length (mode (tok_of t ∷ so_far.earlier)).levels) (line_kind so_far.earlier) (next_kind later)
  test_is = λ i. is_cut t.kind (depth_is i) (so_far.line_is i) (next_kind later)

  whole_with : (parts : List (List Tok)) (part : List Tok) → Parts so_far.earlier (tok_of t ∷ later) (part ∷ parts) → AreParts (map tok_of tokens) (so_far.done ++ ((so_far.current ++ part) ∷ parts))
  whole_with parts part p = so_far.whole part parts (subst (λ l. Parts so_far.earlier l (part ∷ parts)) (sym (ap (map tok_of) (split tokens n t below is))) p)

  ended : end_after (end_of_parts 0 so_far.done) extended ≡ t.offset + t.length
  ended = end_last (end_of_parts 0 so_far.done) so_far.current (tok_of t) ∙ end_is t

  spans_with : spans ++ (span start (t.offset + t.length) ∷ []) ≡ spans_from 0 (so_far.done ++ (extended ∷ []))
  spans_with = (λ i. so_far.spans_are i ++ (span (so_far.start_is i) (sym ended i) ∷ [])) ∙ sym (spans_push 0 so_far.done extended)

  -- a part ends with the token
  pub cuts : test ≡ true → ChunksTo tokens (n + 1) (spans ++ (span start (t.offset + t.length) ∷ [])) (t.offset + t.length) (depth_after t.kind depth) (line_after t.kind line)
  cuts e = record {
    done = so_far.done ++ (extended ∷ []);
    current = [];
    earlier = tok_of t ∷ so_far.earlier;
    whole = λ part parts p.
        subst (λ ps. AreParts (map tok_of tokens) ps) (sym (append_assoc so_far.done (extended ∷ []) (part ∷ parts)))
        (whole_with (part ∷ parts) (tok_of t ∷ []) (Parts.cut (cut_by (tok_of t) so_far.earlier later (sym test_is ∙ e)) p));
    spans_are = spans_with;
    start_is = sym (end_push 0 so_far.done extended ∙ ended);
    depth_is = depth_is;
    line_is = kind_is;
    depth_within = omega (arith, depth_grows t.kind depth, so_far.depth_within);
  }

  -- the part goes on
  pub passes : test ≡ false → ChunksTo tokens (n + 1) spans start (depth_after t.kind depth) (line_after t.kind line)
  passes e = record {
    done = so_far.done;
    current = extended;
    earlier = tok_of t ∷ so_far.earlier;
    whole = λ part parts p.
        subst (λ current. AreParts (map tok_of tokens) (so_far.done ++ (current ∷ parts))) (sym (append_assoc so_far.current (tok_of t ∷ []) part))
        (whole_with parts (tok_of t ∷ part) (Parts.uncut not_cut p));
    spans_are = so_far.spans_are;
    start_is = so_far.start_is;
    depth_is = depth_is;
    line_is = kind_is;
    depth_within = omega (arith, depth_grows t.kind depth, so_far.depth_within);
  }
    where
      not_cut : IsCut (tok_of t ∷ so_far.earlier) later → ⊥
      not_cut c = let bad : true ≡ false = sym (test_is ∙ cut_holds (tok_of t) so_far.earlier later c) ∙ e in cc

  -- the last token ends the last part
  pub ends : length tokens ≤ n + 1 → (parts : List (List Tok)) × AreParts (map tok_of tokens) parts × (spans ++ (span start (t.offset + t.length) ∷ []) ≡ spans_from 0 parts)
  ends l =
      let none : later ≡ [] = ap (map tok_of) (drop_all (n + 1) tokens l) in
      (so_far.done ++ (extended ∷ []), whole_with [] (tok_of t ∷ []) (subst (λ l. Parts so_far.earlier (tok_of t ∷ l) ((tok_of t ∷ []) ∷ [])) (sym none) Parts.last), spans_with)

-- the spans of the chunks, after the last token
pub finished : (tokens others : List Token) (last : Token) (n : ℕ) (spans all : List Span) (start depth end : ℕ) (line : Option TokenKind) → ChunksTo tokens n spans start depth line → tokens ≡ others ++ (last ∷ []) → n ≡ length others
    → end ≡ last.offset + last.length → all ≡ spans ++ (span start end ∷ []) → (text : List ℕ) → IsUtf8 text → Lexed text (map tok_of tokens) → AreChunks text (map tok_of tokens) all
finished tokens others last n spans all start depth end line so_far are at e f text u l =
    let here = at_last tokens others last are n at in
    let found = ends tokens n spans start depth line so_far last here.0 here.1 here.2 in
    are_chunks text (map tok_of tokens) found.0 all u l found.1 (f ∙ ap (λ k. spans ++ (span start k ∷ [])) e ∙ found.2)
