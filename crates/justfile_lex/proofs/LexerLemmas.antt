-- Adding a token keeps the invariant of the lexer.
use Rattle.std.proofs.Common.{◌≡◌, ◌≢◌, ◌-◌, ◌*◌, ◌<◌, ⊎_elim, ℕ, ◌+◌, ◌≤◌, List, [], ◌∷◌, ◌++◌, length, drop, refl, sym, ap, subst, ◌∙◌, arith, rules}
use Rattle.std.specs.Prelude.{map, reverse, Option, Some, Ok, Err, option_map, IfSome}
use Rattle.std.proofs.lemmas.List.{map-append, reverse-append, length-take-le}
use Rattle.justfile_vocabulary.specs.declared.token_kind.TokenKind.{TokenKind}
use Rattle.justfile_token.specs.declared.token.Token.{Token}
use Rattle.justfile_vocabulary.specs.declared.token_kind.TokenKind.TheVariants.{Eof, Dedent, Indent, InterpolationEnd, InterpolationStart}
use Rattle.justfile_model.proofs.Lexing.NextLaws.{Moves, token_cut}
use Rattle.std.specs.Str.{IsUtf8}
use Rattle.std.proofs.lemmas.Str.{IsCharBoundary-from_rest, IsUtf8-drop}
use Rattle.justfile_lex.specs.declared.lexer.Lexer.{Lexer}
use Rattle.justfile_token.specs.Slice.{slice_of}
use Rattle.justfile_model.specs.Lexing.Places.{line_of_offset, column_at}
use Rattle.justfile_model.specs.Lexing.Tok.{Tok, tok_of}
use Rattle.justfile_model.specs.Lexing.Modes.{Mode, mode_after, tail_of}
use Rattle.justfile_model.specs.Lexing.LexResult.{IsFrom}
use Rattle.justfile_scan.specs.Modes.{mode_of, interpolation_start_by}
use Rattle.justfile_model.specs.Lexing.LexicalFault.{Unclosed, UnterminatedInterpolation}
use Rattle.justfile_model.specs.Lexing.Next.{next, at_end_by}
use Rattle.justfile_model.specs.Lexing.Lexed.{next_of, Begins, IsFault, IsNext, Lexed, StandsAt}
use Rattle.justfile_lex.specs.Lexing.{IsLexerToken, IsLexing, IsPlaced, IsReading, Takes}

pub earlier_push : (ts : List Token) (t : Token) → reverse (map tok_of (ts ++ t ∷ [])) ≡ tok_of t ∷ reverse (map tok_of ts)
earlier_push ts t = ap reverse (map-append tok_of ts (t ∷ [])) ∙ reverse-append (map tok_of ts) (tok_of t ∷ [])

module _ (l : Lexer) (kind : TokenKind) (len : ℕ) (t : Tok) (at : IsLexerToken l kind len t) (fits : len ≤ length (drop l.offset l.src.now)) where
  pub lexeme_len : length t.lexeme ≡ len
  lexeme_len = ap length at.lexeme_is ∙ length-take-le len (drop l.offset l.src.now) fits

  pub stands_at : IsPlaced l → StandsAt l.src.now l.offset t
  stands_at placed = record {
    offset_is = at.offset_is;
    lexeme_is = at.lexeme_is ∙ (λ i. slice_of l.src.now (sym at.offset_is i) (sym lexeme_len i));
    line_is = at.line_is ∙ placed.place.line_is ∙ ap (line_of_offset l.src.now) (sym at.offset_is);
    column_is = at.column_is ∙ placed.place.column_is ∙ ap (column_at l.src.now) (sym at.offset_is);
  }

-- two tokens of one kind and one length at one place are the same
same_tok : (text : List ℕ) (offset : ℕ) (a b : Tok) → StandsAt text offset a → StandsAt text offset b → a.kind ≡ b.kind → length a.lexeme ≡ length b.lexeme → a ≡ b
same_tok text offset a b p q kind_is long =
    let offset_is = p.offset_is ∙ sym q.offset_is in
    λ i. record {
      kind = kind_is i;
      lexeme = (p.lexeme_is ∙ (λ j. slice_of text (offset_is j) (long j)) ∙ sym q.lexeme_is) i;
      offset = offset_is i;
      line = (p.line_is ∙ ap (line_of_offset text) offset_is ∙ sym q.line_is) i;
      column = (p.column_is ∙ ap (column_at text) offset_is ∙ sym q.column_is) i;
    }

-- a token that was made at the lexer's position is the one that was taken
pub taken_as : (old new : Lexer) (s t : Token) → Takes old new t → StandsAt old.src.now old.offset (tok_of s) → length (tok_of s).lexeme ≡ s.length → IsFrom old.path.now old.src.now s → s.kind ≡ t.kind
    → s.length ≡ t.length → Takes old new s
taken_as old new s t p stands long from kind_is length_is =
    let same : tok_of s ≡ tok_of t = same_tok old.src.now old.offset (tok_of s) (tok_of t) stands p.stands kind_is (long ∙ length_is ∙ sym p.length_is) in
    record {
      found = p.found ∙ (λ i. Ok (sym kind_is i, sym length_is i));
      stands = stands;
      length_is = long;
      source = from;
      mode_is = p.mode_is ∙ (λ i. mode_after (sym kind_is i) (sym same i) (mode_of old.mode));
      interpolation_is = p.interpolation_is;
      path_is = p.path_is;
      src_is = p.src_is;
      offset_is = p.offset_is ∙ ap (λ (n : ℕ). old.offset + n) (sym length_is);
      placed = p.placed;
    }

-- a token adds at most one level
tail_le : {A : Type 0} (xs : List A) → length (tail_of xs) ≤ length xs + 1
tail_le [] = omega arith
tail_le (x ∷ xs) = omega arith

levels_after : (k : TokenKind) (t : Tok) (m : Mode) → length (mode_after k t m).levels ≤ length m.levels + 1
levels_after Indent t m = omega arith
levels_after Dedent t m = tail_le m.levels
levels_after _ t m = omega arith

-- and a dedent takes one away
tail_less : {A : Type 0} (xs : List A) → 0 < length xs → length (tail_of xs) < length xs
tail_less [] h = absurd (omega arith)
tail_less (x ∷ xs) h = omega arith

-- twice the bytes that are left, and the levels that are open
abbrev pub left : Lexer → ℕ
left l = 2 * (length l.src.now - l.offset) + length (mode_of l.mode).levels

-- the next token of the lexer is that of the definition
pub next_is : (l : Lexer) (earlier : List Tok) → IsLexing l earlier → next_of l.src.now earlier ≡ next (mode_of l.mode) (drop l.offset l.src.now)
next_is l earlier h =
    let offset = sym h.offset_is in
    λ i. next (sym h.mode_is i) (drop (offset i) l.src.now)

module _ (old new : Lexer) (t : Token) (p : Takes old new t) where
  module _ (earlier : List Tok) (h : IsLexing old earlier) where
    pub taken_next : IsNext old.src.now earlier (tok_of t)
    taken_next = record {
      stands = subst (λ n. StandsAt old.src.now n (tok_of t)) h.offset_is p.stands;
      found = next_is old earlier h ∙ p.found ∙ ap (λ (n : ℕ). Ok (t.kind, n)) (sym p.length_is);
    }

    pub lexes_on : t.kind ≢ Eof → IsLexing new (tok_of t ∷ earlier)
    lexes_on ne = record {
      placed = p.placed;
      offset_is = p.offset_is ∙ (λ i. sym p.stands.offset_is i + sym p.length_is i);
      mode_is = p.mode_is ∙ ap (mode_after t.kind (tok_of t)) h.mode_is;
      begins =
          let begins : Begins old.src.now (tok_of t ∷ earlier) = (h.begins, taken_next, ne) in
          subst (λ s. Begins s (tok_of t ∷ earlier)) (ap (λ (s : _). s.now) (sym p.src_is)) begins;
      interpolation_is =
          subst (λ q. IfSome new.mode.interpolation (IsFrom q new.src.now)) (ap (λ (s : _). s.now) (sym p.path_is))
          (subst (λ q. IfSome new.mode.interpolation (IsFrom old.path.now q)) (ap (λ (s : _). s.now) (sym p.src_is)) p.interpolation_is);
    }

  goes_down : old.offset + t.length ≤ length old.src.now → Moves (mode_of old.mode) t.kind t.length → t.kind ≢ Eof → left new < left old
  goes_down end moves ne =
      let src : length new.src.now ≡ length old.src.now = ap (λ (s : _). length s.now) p.src_is in
      let levels : length (mode_of new.mode).levels ≡ length (mode_after t.kind (tok_of t) (mode_of old.mode)).levels = ap (λ m. length m.levels) p.mode_is in
      let offset = p.offset_is in
      ⊎_elim
      (λ more. omega (arith, src, levels, offset, end, more, levels_after t.kind (tok_of t) (mode_of old.mode)))
      (λ none. ⊎_elim (λ eof. absurd (ne eof)) (λ dedent.
      let fewer = subst (λ k. length (mode_after k (tok_of t) (mode_of old.mode)).levels < length (mode_of old.mode).levels) (sym dedent.0) (tail_less (mode_of old.mode).levels dedent.1) in
      omega (arith, src, levels, offset, end, fewer)) none)
      moves

-- the lexer moves on, up to `Eof`
pub falls : (old new : Lexer) (t : Token) → Takes old new t → IsUtf8 old.src.now → IsPlaced old → t.kind ≢ Eof → left new < left old
falls old new t p utf8 placed ne =
    let cut = token_cut (mode_of old.mode) (drop old.offset old.src.now) (IsUtf8-drop old.src.now old.offset utf8 placed.cut) t.kind t.length p.found in
    let end = IsCharBoundary-from_rest _ _ _ placed.cut.0 cut.0 in
    goes_down old new t p end.0 cut.1 ne

-- a list of tokens that the last one ends
pub all_lexed : (text : List ℕ) (ts : List Token) (t : Token) → Begins text (reverse (map tok_of ts)) → IsNext text (reverse (map tok_of ts)) (tok_of t) → t.kind ≡ Eof → Lexed text (map tok_of (ts ++ t ∷ []))
all_lexed text ts t begins next end = record { earlier = reverse (map tok_of ts); last = tok_of t; are = earlier_push ts t; begins = begins; is_next = next; is_end = end }

-- the start of an open interpolation is one of the tokens
pub interpolation_from : (path src : List ℕ) (k : TokenKind) (t : Token) (before : Option Token) → IsFrom path src t → IfSome before (IsFrom path src) → IfSome (interpolation_start_by k t before) (IsFrom path src)
interpolation_from path src InterpolationStart t before from h = from
interpolation_from path src InterpolationEnd t before from h = search rules
interpolation_from path src _ t before from h = h

-- at the end of the text an open interpolation is an error
unclosed_is : (l : Lexer) (t : Token) → length (drop l.offset l.src.now) ≡ 0 → l.mode.interpolation ≡ Some t → next (mode_of l.mode) (drop l.offset l.src.now) ≡ Err (Unclosed (tok_of t))
unfolding next
unclosed_is l t none is = go (drop l.offset l.src.now) none
  where
    go : (rest : List ℕ) → length rest ≡ 0 → next (mode_of l.mode) rest ≡ Err (Unclosed (tok_of t))
    go [] h = ap (λ i. at_end_by (option_map tok_of i) (mode_of l.mode).levels) is
    go (b ∷ bs) h = absurd (omega (arith, h))

pub from_open : (l : Lexer) (t : Token) → IsReading l → l.mode.interpolation ≡ Some t → IsFrom l.path.now l.src.now t
from_open l t h is = subst (λ i. IfSome i (IsFrom l.path.now l.src.now)) is h.lexing.interpolation_is

pub unclosed_fault : (l : Lexer) (t : Token) → IsReading l → length (drop l.offset l.src.now) ≡ 0 → l.mode.interpolation ≡ Some t → IsFault l.src.now UnterminatedInterpolation (tok_of t)
unclosed_fault l t h none is = record {
  earlier = h.earlier;
  begins = h.lexing.begins;
  refusal = Unclosed (tok_of t);
  refused = next_is l h.earlier h.lexing ∙ unclosed_is l t none is;
  spans = (refl, refl);
}
