-- A token before a byte that is no blank and no line end, at the start of a line, is found whatever follows that byte.
use Rattle.std.proofs.Common.{◌≡◌, ◌≢◌, ◌∙◌, ℕ, suc, ◌+◌, ◌≤◌, Bool, true, false, cond, eqb, ltb, not, ◌&&◌, ◌||◌, List, [], ◌∷◌, ◌++◌, inl, inr, length, take, drop, get_or, Ok, refl, sym, ap, subst, arith, append_assoc, length-append, ⊎_elim}
use Rattle.std.specs.Char.{is_ascii_alphabetic, is_ascii_digit}
use Rattle.std.specs.Str.{IsUtf8, bytes_eq}
use Rattle.std.proofs.lemmas.Bool.Decides.{nat_tests}
use Rattle.justfile_vocabulary.specs.declared.byte_class.ByteClass.{ByteClass}
use Rattle.justfile_vocabulary.specs.declared.byte_class.ByteClass.TheVariants as classes
use Rattle.justfile_vocabulary.specs.declared.token_kind.TokenKind.{TokenKind}
use Rattle.justfile_vocabulary.specs.declared.token_kind.TokenKind.TheVariants as kinds
use Rattle.justfile_vocabulary.specs.ByteClass.{begins_fixed, class_of}
use Rattle.justfile_model.specs.Lexing.BlankLines.{is_blank_or_line_end}
use Rattle.justfile_model.specs.Lexing.Bytes.{blank, blank_len, closes_levels, is_blank, line_feed, white}
use Rattle.justfile_model.specs.Lexing.Modes.{Mode, innermost, is_empty, nested}
use Rattle.justfile_model.specs.Lexing.Next.{begins_blank_line, layout, next, token_within_line}
use Rattle.justfile_model.proofs.Lexing.NextLaws.{token_cut}
use Rattle.justfile_chunks.proofs.CutModes.{next_fact, no_dedent_within}
use Rattle.justfile_chunks.proofs.PartNext.{ClosesAlike, part_next}
use Rattle.justfile_chunks.proofs.PartSteps.{feed_utf8, next_start}
use Rattle.justfile_chunks.proofs.TidyModes.{Fed}

-- ---- the byte

-- a byte that is no blank and no line end
pub record IsDark (d : ℕ) : Type 0 where
  pub is_white : white (class_of d) ≡ false
  pub no_feed : eqb d 10 ≡ false
  pub no_return : eqb d 13 ≡ false

record NotWhite (k : ByteClass) : Type 0 where
  is : white k ≡ false

unless : (t : Bool) (x : ByteClass) {y : ByteClass} → t ≡ false → NotWhite y → NotWhite (cond t x y)
unless true x e h = cc
unless false x e h = h

either : (t : Bool) (x : ByteClass) {y : ByteClass} → white x ≡ false → NotWhite y → NotWhite (cond t x y)
either true x h k = record { is = h }
either false x h k = k

dark_class : (d : ℕ) → (eqb d 32 || eqb d 9) ≡ false → eqb d 10 ≡ false → eqb d 13 ≡ false → NotWhite (class_of d)
unfolding class_of
dark_class d a b c =
    unless (eqb d 32 || eqb d 9) classes.Blank a
    (unless (eqb d 10) classes.LineFeed b
    (unless (eqb d 13) classes.CarriageReturn c
    (either (is_ascii_alphabetic d || eqb d 95) classes.IdentifierStart refl
    (either (is_ascii_digit d || eqb d 45) classes.IdentifierContinue refl
    (either (eqb d 39 || eqb d 34 || eqb d 96) classes.Quote refl
    (either (eqb d 40 || eqb d 91 || eqb d 123) classes.Opener refl
    (either (eqb d 41 || eqb d 93 || eqb d 125) classes.Closer refl
    (either (begins_fixed d) classes.Fixed refl
    (either (ltb 193 d && ltb d 245) classes.Lead {y = classes.Other} refl (record { is = refl }))))))))))

dark_blank : (d : ℕ) → is_blank_or_line_end d ≡ false → (eqb d 32 || eqb d 9) ≡ false
dark_blank d h = grind (arith, nat_tests)

dark_feed : (d : ℕ) → is_blank_or_line_end d ≡ false → eqb d 10 ≡ false
dark_feed d h = grind (arith, nat_tests)

dark_return : (d : ℕ) → is_blank_or_line_end d ≡ false → eqb d 13 ≡ false
dark_return d h = grind (arith, nat_tests)

pub is_dark : (d : ℕ) → is_blank_or_line_end d ≡ false → IsDark d
is_dark d h = record {
  is_white = (dark_class d (dark_blank d h) (dark_feed d h) (dark_return d h)).is;
  no_feed = dark_feed d h;
  no_return = dark_return d h;
}

-- ---- the token before it

layout_here : (m : Mode) (following rest : List ℕ) → nested m ≡ false → begins_blank_line following ≡ false
    → layout m [] following rest ≡ cond (bytes_eq [] (innermost m)) (token_within_line m rest) (Ok (kinds.Dedent, 0))
unfolding layout
layout_here m following rest a b = rw (a, b) refl

module _ (d : ℕ) (dark : IsDark d) where
  no_blank : is_blank d ≡ false
  no_blank = by (class_of d) dark.is_white
    where
      by : (k : ByteClass) → white k ≡ false → blank k ≡ false
      by classes.Blank h = h
      by _ h = refl

  no_blanks : (v : List ℕ) → blank_len (d ∷ v) ≡ 0
  no_blanks v = ap (λ t. cond t (1 + blank_len v) 0) no_blank

  closes_same : (w v x : List ℕ) (last : Bool) → closes_levels last (w ++ (d ∷ v)) ≡ closes_levels last (w ++ (d ∷ x))
  unfolding closes_levels
  closes_same [] v x last =
      ap (λ t. cond t (closes_levels (line_feed (class_of d)) v) last) dark.is_white
      ∙ sym (ap (λ t. cond t (closes_levels (line_feed (class_of d)) x) last) dark.is_white)
  closes_same (b ∷ w) v x last = ap (λ t. cond (white (class_of b)) t last) (closes_same w v x (line_feed (class_of b)))

  module _ (m : Mode) where
    -- before the byte only a dedent can be without bytes
    pub starts : (v : List ℕ) → nested m ≡ false → m.line_start ≡ true
        → next m (d ∷ v) ≡ cond (bytes_eq [] (innermost m)) (token_within_line m (d ∷ v)) (Ok (kinds.Dedent, 0))
    starts v flat start =
        next_start m (d ∷ v) (omega arith) start ∙ ap (λ n. layout m (take n (d ∷ v)) (drop n (d ∷ v)) (d ∷ v)) (no_blanks v)
        ∙ layout_here m (d ∷ v) (d ∷ v) flat (λ i. (dark.no_feed i || (dark.no_return i && eqb (get_or v 0 0) 10)) || false)

    dedent_too : (v x : List ℕ) (n : ℕ) → next m (d ∷ v) ≡ Ok (kinds.Dedent, n) → next m (d ∷ x) ≡ Ok (kinds.Dedent, n)
    dedent_too v x n e =
        let f = next_fact m (d ∷ v) kinds.Dedent n (omega arith) e in
        by f.0 f.1 (bytes_eq [] (innermost m)) refl
      where
        by : nested m ≡ false → m.line_start ≡ true → (b : Bool) → bytes_eq [] (innermost m) ≡ b → next m (d ∷ x) ≡ Ok (kinds.Dedent, n)
        by flat start true s = absurd (no_dedent_within m (d ∷ v) n
            (sym (starts v flat start ∙ ap (λ b. cond b (token_within_line m (d ∷ v)) (Ok (kinds.Dedent, 0))) s) ∙ e))
        by flat start false s =
            starts x flat start ∙ ap (λ b. cond b (token_within_line m (d ∷ x)) (Ok (kinds.Dedent, 0))) s
            ∙ sym (starts v flat start ∙ ap (λ b. cond b (token_within_line m (d ∷ v)) (Ok (kinds.Dedent, 0))) s) ∙ e

    module _ (v x : List ℕ) (k : TokenKind) (n : ℕ) (no_eof : k ≢ kinds.Eof) where
      at_once : IsUtf8 (d ∷ v) → n ≤ 0 → next m (d ∷ v) ≡ Ok (k, n) → next m (d ∷ x) ≡ Ok (k, n)
      at_once u l e =
          ⊎_elim (λ some. absurd (omega (arith, l, some))) (λ h. ⊎_elim (λ end. absurd (no_eof end)) (λ c.
          subst (λ j. next m (d ∷ x) ≡ Ok (j, n)) (sym c.0) (dedent_too v x n (subst (λ j. next m (d ∷ v) ≡ Ok (j, n)) c.0 e))) h)
          (token_cut m (d ∷ v) u k n e).1

      after_feed : (w : List ℕ) → IsUtf8 (w ++ (10 ∷ d ∷ v)) → n ≤ suc (length w) → next m (w ++ (10 ∷ d ∷ v)) ≡ Ok (k, n)
          → next m (w ++ (10 ∷ d ∷ x)) ≡ Ok (k, n)
      after_feed w u l e = part_next m w (d ∷ v) (d ∷ x) (no_blanks x) (feed_utf8 w (d ∷ v) u) closes k n e l
        where
          closes : ClosesAlike m w (d ∷ v) (d ∷ x)
          closes = record {
            alike = λ start flat blank. ap (λ t. not (is_empty m.levels) && t)
                (ap (closes_levels false) (sym (append_assoc w (10 ∷ []) (d ∷ v))) ∙ closes_same (w ++ (10 ∷ [])) v x false
                ∙ ap (closes_levels false) (append_assoc w (10 ∷ []) (d ∷ x)));
          }

      -- a token of a text that is empty or ends in a line feed is found with the other text after the byte
      pub joined_next : (text : List ℕ) → Fed text → IsUtf8 (text ++ (d ∷ v)) → n ≤ length text → next m (text ++ (d ∷ v)) ≡ Ok (k, n)
          → next m (text ++ (d ∷ x)) ≡ Ok (k, n)
      joined_next text (inl h) u l e =
          ap (λ t. next m (t ++ (d ∷ x))) h
          ∙ at_once (subst (λ t. IsUtf8 (t ++ (d ∷ v))) h u) (subst (λ t. n ≤ length t) h l) (ap (λ t. next m (t ++ (d ∷ v))) (sym h) ∙ e)
      joined_next text (inr h) u l e =
          let is = λ (y : List ℕ). ap (λ t. t ++ (d ∷ y)) h.is ∙ append_assoc h.front (10 ∷ []) (d ∷ y) in
          ap (next m) (is x)
          ∙ after_feed h.front (subst IsUtf8 (is v) u) (omega (arith, l, ap length h.is, length-append h.front (10 ∷ []))) (sym (ap (next m) (is v)) ∙ e)
