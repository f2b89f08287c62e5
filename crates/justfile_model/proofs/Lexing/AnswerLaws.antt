-- Each text has tokens or a fault.
use Rattle.std.proofs.Common.{zero, suc, ◌≡◌, ◌≢◌, ℕ, ◌+◌, ◌-◌, ◌*◌, ◌<◌, ◌≤◌, Bool, true, false, List, [], ◌∷◌, inl, inr, length, drop, Ok, Err, refl, sym, ap, ◌∙◌, ⊎_elim, arith, length-drop, length-take}
use Rattle.std.specs.Prelude.{reverse}
use Rattle.std.specs.Str.{IsUtf8}
use Rattle.std.proofs.lemmas.List.{reverse-reverse}
use Rattle.std.proofs.lemmas.Str.{IsUtf8-drop}
use Rattle.justfile_vocabulary.specs.declared.token_kind.TokenKind.{TokenKind}
use Rattle.justfile_vocabulary.specs.declared.token_kind.TokenKind.TheVariants.{Dedent, Eof, Indent, Unspecified}
use Rattle.justfile_token.specs.Slice.{slice_of}
use Rattle.justfile_model.specs.Lexing.Tok.{Tok}
use Rattle.justfile_model.specs.Lexing.Modes.{Mode, mode_after, mode, tail_of}
use Rattle.justfile_model.specs.Lexing.Places.{line_of_offset, column_at}
use Rattle.justfile_model.specs.Lexing.LexicalFault.{LexicalFault, UnterminatedInterpolation, LexicalError, Here, Unclosed}
use Rattle.justfile_model.specs.Lexing.Next.{NextToken}
use Rattle.justfile_model.specs.Lexing.Lexed.{Begins, IsAnswered, IsFault, IsNext, IsSpan, Lexed, StandsAt, end_of, next_of}
use Rattle.justfile_model.proofs.Lexing.NextLaws.{fault_cut, token_cut}
use Rattle.justfile_model.proofs.Lexing.LexedLaws.{end_cuts}

unfoldable pub is_eof : TokenKind → Bool
is_eof Eof = true
is_eof _ = false

pub eof_is : (k : TokenKind) → is_eof k ≡ true → k ≡ Eof
unfolding is_eof
eof_is Eof h = refl
eof_is _ h = cc

pub not_eof : (k : TokenKind) → is_eof k ≡ false → k ≢ Eof
unfolding is_eof
not_eof k h e = cc (ap is_eof e)

-- a token opens one level at most
levels_after : (k : TokenKind) (t : Tok) (m : Mode) → length (mode_after k t m).levels ≤ suc (length m.levels)
levels_after Indent t m = omega arith
levels_after Dedent t m = go m.levels
  where
    go : (ls : List (List ℕ)) → length (tail_of ls) ≤ suc (length ls)
    go [] = omega arith
    go (l ∷ ls) = omega arith
levels_after _ t m = omega arith

levels_dedent : (ls : List (List ℕ)) → 0 < length ls → suc (length (tail_of ls)) ≡ length ls
levels_dedent [] l = absurd (omega arith)
levels_dedent (x ∷ ls) l = refl

unfoldable pub fault_of : LexicalError → LexicalFault
fault_of (Here p skip n) = p
fault_of (Unclosed t) = UnterminatedInterpolation

module _ (text : List ℕ) where
  unfoldable pub at : TokenKind → ℕ → ℕ → Tok
  at k offset n = record { kind = k; lexeme = slice_of text offset n; offset = offset; line = line_of_offset text offset; column = column_at text offset }

  long : (k : TokenKind) (offset n : ℕ) → offset + n ≤ length text → length (at k offset n).lexeme ≡ n
  unfolding at
  long k offset n l = omega (arith, length-take n (drop offset text), length-drop offset text)

  stands_at : (k : TokenKind) (offset n : ℕ) → offset + n ≤ length text → StandsAt text offset (at k offset n)
  unfolding at
  stands_at k offset n l = record { offset_is = refl; lexeme_is = ap (slice_of text offset) (sym (long k offset n l)); line_is = refl; column_is = refl }

  -- the next token
  pub next_at : (e : List Tok) (k : TokenKind) (n : ℕ) → end_of e + n ≤ length text → next_of text e ≡ Ok (k, n) → IsNext text e (at k (end_of e) n)
  unfolding at
  next_at e k n l found = record { stands = stands_at k (end_of e) n l; found = found ∙ ap (λ i. let x : NextToken = Ok (k, i) in x) (sym (long k (end_of e) n l)) }

  unfoldable pub span_of : List Tok → LexicalError → Tok
  span_of e (Here p skip n) = at Unspecified (end_of e + skip) n
  span_of e (Unclosed t) = t

  pub refused_at : (e : List Tok) → Begins text e → IsUtf8 text → (r : LexicalError) → next_of text e ≡ Err r → IsFault text (fault_of r) (span_of e r)
  unfolding at fault_of span_of
  refused_at e b u r refused = record { earlier = e; begins = b; refusal = r; refused = refused; spans = spans r refused }
    where
      spans : (r : LexicalError) → next_of text e ≡ Err r → IsSpan text e r (fault_of r) (span_of e r)
      spans (Unclosed t) refused = (refl, refl)
      spans (Here p skip n) refused =
          let cut = end_cuts text e u b in
          let fault = fault_cut (mode e) (drop (end_of e) text) (IsUtf8-drop text (end_of e) u cut) (Here p skip n) refused in
          let within : end_of e + skip + n ≤ length text = omega (arith, cut.0, fault.1.0, length-drop (end_of e) text) in
          (refl, refl, long Unspecified (end_of e + skip) n within, stands_at Unspecified (end_of e + skip) n within)

  next_fits : (e : List Tok) → Begins text e → IsUtf8 text → (k : TokenKind) (n : ℕ) → next_of text e ≡ Ok (k, n) → end_of e + n ≤ length text
  next_fits e b u k n h =
      let cut = end_cuts text e u b in
      let found = token_cut (mode e) (drop (end_of e) text) (IsUtf8-drop text (end_of e) u cut) k n h in
      omega (arith, cut.0, found.0.0, length-drop (end_of e) text)

  pub begun_at : (e : List Tok) → Begins text e → IsUtf8 text → (k : TokenKind) (n : ℕ) → next_of text e ≡ Ok (k, n) → is_eof k ≡ false → Begins text (at k (end_of e) n ∷ e)
  unfolding at
  begun_at e b u k n h f = (b, next_at e k n (next_fits e b u k n h) h, not_eof k f)

  pub last_at : (e : List Tok) → Begins text e → IsUtf8 text → (k : TokenKind) (n : ℕ) → next_of text e ≡ Ok (k, n) → is_eof k ≡ true → Lexed text (reverse (at k (end_of e) n ∷ e))
  unfolding at
  last_at e b u k n h f = record {
    earlier = e;
    last = at k (end_of e) n;
    are = reverse-reverse (at k (end_of e) n ∷ e);
    begins = b;
    is_next = next_at e k n (next_fits e b u k n h) h;
    is_end = eof_is k f;
  }

  -- each token takes bytes or closes a level
  falls : (e : List Tok) → Begins text e → IsUtf8 text → (k : TokenKind) (n : ℕ) → next_of text e ≡ Ok (k, n) → is_eof k ≡ false → 2 * (length text - end_of (at k (end_of e) n ∷ e)) + length (mode (at k (end_of e) n ∷ e)).levels < 2 * (length text - end_of e) + length (mode e).levels
  unfolding at
  falls e b u k n h f =
      let within = next_fits e b u k n h in
      let t = at k (end_of e) n in
      let is_long : length t.lexeme ≡ n = long k (end_of e) n within in
      let found = token_cut (mode e) (drop (end_of e) text) (IsUtf8-drop text (end_of e) u (end_cuts text e u b)) k n h in
      ⊎_elim
      (λ some. omega (arith, is_long, within, levels_after k t (mode e)))
      (λ none. ⊎_elim
      (λ eof. absurd (not_eof k f eof))
      (λ dedent.
      let fewer : length (mode_after k t (mode e)).levels ≡ length (tail_of (mode e).levels) = ap (λ k. length (mode_after k t (mode e)).levels) dedent.0 in
      omega (arith, fewer, levels_dedent (mode e).levels dedent.1))
      none)
      found.1

  answered_from : (fuel : ℕ) (e : List Tok) → IsUtf8 text → Begins text e → 2 * (length text - end_of e) + length (mode e).levels < fuel → IsAnswered text
  unfolding at
  answered_from zero e u b l = absurd (omega arith)
  answered_from (suc fuel) e u b l = go (answered_from fuel) (next_of text e) refl
    where
      go : ((e : List Tok) → IsUtf8 text → Begins text e → 2 * (length text - end_of e) + length (mode e).levels < fuel → IsAnswered text) → (found : NextToken) → next_of text e ≡ found → IsAnswered text
      go more (Err r) h = inr (fault_of r, span_of e r, refused_at e b u r h)
      go more (Ok x) h = goes (is_eof x.0) refl
        where
          goes : (eof : Bool) → is_eof x.0 ≡ eof → IsAnswered text
          goes true k = inl (reverse (at x.0 (end_of e) x.1 ∷ e), last_at e b u x.0 x.1 h k)
          goes false k = more (at x.0 (end_of e) x.1 ∷ e) u (begun_at e b u x.0 x.1 h k) (omega (arith, l, falls e b u x.0 x.1 h k))

  pub answered : IsUtf8 text → IsAnswered text
  answered u = answered_from (suc (2 * (length text - 0) + 0)) [] u tt (omega arith)
