-- Before the end of the text, a position is at column 0 exactly if a line starts there.
use Rattle.std.proofs.Common.{zero, suc, ◌≡◌, ◌≢◌, ℕ, ◌+◌, ◌-◌, ◌<◌, ◌≤◌, Bool, true, false, cond, eqb, List, [], ◌∷◌, length, get_or, take, drop, refl, sym, ap, subst, ◌∙◌, ⊎_elim, arith, length-take, get_or-drop, get_or-take}
use Rattle.std.specs.Prelude.{not, reverse}
use Rattle.std.specs.List.{prefix_len}
use Rattle.std.specs.Str.{IsUtf8}
use Rattle.std.proofs.lemmas.List.{get_or-reverse, length-reverse}
use Rattle.std.proofs.lemmas.Str.{IsUtf8-drop}
use Rattle.justfile_vocabulary.specs.declared.token_kind.TokenKind.{TokenKind}
use Rattle.justfile_vocabulary.specs.declared.token_kind.TokenKind.TheVariants.{Dedent, Eof, Eol, Whitespace}
use Rattle.std.proofs.lemmas.List.Sums.{prefix_len-le-length}
use Rattle.justfile_model.specs.Lexing.Tok.{Tok}
use Rattle.justfile_model.specs.Lexing.Modes.{Mode, mode_after, mode}
use Rattle.justfile_model.specs.Lexing.Places.{is_line_feed, text_before, last_line_start, column_at}
use Rattle.justfile_model.specs.Lexing.Lexed.{Begins, end_of}
use Rattle.justfile_model.proofs.Lexing.NextLaws.{EndsAt, ends_line, token_cut}
use Rattle.justfile_model.proofs.Lexing.LexedLaws.{end_cuts}

-- the start of the text, or an offset right after a line feed
abbrev starts_line : List ℕ → ℕ → Bool
starts_line text zero = true
starts_line text (suc n) = eqb (get_or text n 0) 10

-- The column of an offset is the length of the run before it that has no line feed.
run : List ℕ → ℕ
run bs = prefix_len (λ b. not (is_line_feed b)) (reverse bs)

run_fits : (bs : List ℕ) → run bs ≤ length bs
unfolding run
run_fits bs = omega (arith, prefix_len-le-length (λ b. not (is_line_feed b)) (reverse bs), length-reverse bs)

column_is : (text : List ℕ) (n : ℕ) → n < length text → column_at text n ≡ run (text_before text n)
unfolding column_at last_line_start run
column_is text n l =
    omega (arith, run_fits (text_before text n), length-take n (take (length text - 1) text), length-take (length text - 1) text)

first_of_run : (bs : List ℕ) → 0 < length bs → eqb (prefix_len (λ b. not (is_line_feed b)) bs) 0 ≡ eqb (get_or bs 0 0) 10
first_of_run [] l = absurd (omega arith)
first_of_run (b ∷ bs) l = go (eqb b 10)
  where
    go : (t : Bool) → eqb (cond (not t) (1 + prefix_len (λ b. not (is_line_feed b)) bs) 0) 0 ≡ t
    go true = refl
    go false = grind arith

column_zero : (text : List ℕ) (n : ℕ) → n < length text → eqb (column_at text n) 0 ≡ starts_line text n
unfolding run
column_zero text zero l = ap (λ k. eqb k 0) (column_is text 0 l)
column_zero text (suc n) l =
    let bs = text_before text (suc n) in
    let long : length bs ≡ suc n = omega (arith, length-take (suc n) (take (length text - 1) text), length-take (length text - 1) text) in
    let at : get_or bs n 0 ≡ get_or text n 0 = get_or-take (suc n) (take (length text - 1) text) n 0 (omega arith) ∙ get_or-take (length text - 1) text n 0 (omega arith) in
    let last : get_or (reverse bs) 0 0 ≡ get_or bs n 0 = get_or-reverse bs 0 0 (omega arith) ∙ ap (λ k. get_or bs k 0) (let e : length bs - 1 - 0 ≡ n = omega arith in e) in
    ap (λ k. eqb k 0) (column_is text (suc n) l) ∙ first_of_run (reverse bs) (omega (arith, length-reverse bs)) ∙ ap (λ b. eqb b 10) (last ∙ at)

pub end_column : (text : List ℕ) → 0 < length text → 0 < column_at text (length text)
unfolding column_at last_line_start
end_column text l = omega (arith, length-take (length text) (take (length text - 1) text), length-take (length text - 1) text)

module _ (text : List ℕ) (u : IsUtf8 text) where
  -- a token that takes bytes
  line_start_after : (k : TokenKind) (t : Tok) (m : Mode) (rest : List ℕ) → get_or t.lexeme (length t.lexeme - 1) 0 ≡ get_or rest (length t.lexeme - 1) 0 → EndsAt rest k (length t.lexeme) → k ≢ Eof → 0 < length t.lexeme → (mode_after k t m).line_start ≡ ends_line rest (length t.lexeme)
  line_start_after Eof t m rest e ends more l = absurd (more refl)
  line_start_after Dedent t m rest e ends more l = absurd (omega arith)
  line_start_after Eol t m rest e ends more l = sym ends
  line_start_after Whitespace t m rest e ends more l = ap (λ b. eqb b 10) e
  line_start_after _ t m rest e ends more l = sym ends

  line_start_is : (e : List Tok) → Begins text e → end_of e < length text → (mode e).line_start ≡ starts_line text (end_of e)
  line_start_is [] b l = refl
  line_start_is (t ∷ e) b l =
      let at = end_cuts text e u b.0 in
      let rest = drop (end_of e) text in
      let n = length t.lexeme in
      let offset = b.1.stands.offset_is in
      let cut = token_cut (mode e) rest (IsUtf8-drop text (end_of e) u at) _ _ b.1.found in
      ⊎_elim
      (λ some.
      let i = n - 1 in
      let byte : get_or t.lexeme i 0 ≡ get_or rest i 0 = ap (λ l. get_or l i 0) (b.1.stands.lexeme_is ∙ ap (λ o. take n (drop o text)) offset) ∙ get_or-take n rest i 0 (omega arith) in
      let place : end_of e + n ≡ suc (end_of e + i) = omega arith in
      line_start_after t.kind t (mode e) rest byte cut.2 b.2 some
      ∙ ap (λ b. eqb b 10) (get_or-drop (end_of e) text i 0)
      ∙ ap (starts_line text) (sym (ap (λ o. o + n) offset ∙ place)))
      (λ none. ⊎_elim
      (λ eof. absurd (b.2 eof))
      (λ dedent.
      let ends : n ≡ 0 = subst (λ k. EndsAt rest k n) dedent.0 cut.2 in
      let same : end_of (t ∷ e) ≡ end_of e = omega (arith, ends, offset) in
      ap (λ k. (mode_after k t (mode e)).line_start) dedent.0 ∙ line_start_is e b.0 (omega (arith, same, l)) ∙ ap (starts_line text) (sym same))
      none)
      cut.1

  pub line_starts : (e : List Tok) → Begins text e → end_of e < length text → (mode e).line_start ≡ eqb (column_at text (end_of e)) 0
  line_starts e b l = line_start_is e b l ∙ sym (column_zero text (end_of e) l)
