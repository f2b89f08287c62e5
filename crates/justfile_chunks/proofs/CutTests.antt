-- The tests of a loop decide where the cuts are.
use Rattle.std.proofs.Common.{◌≡◌, ◌≢◌, ◌∙◌, ℕ, suc, ◌+◌, ◌≤◌, Bool, true, false, cond, not, ◌&&◌, nat_eq, List, [], ◌∷◌, ◌⊎◌, inl, inr, ⊎_elim, length, Option, Some, None, refl, sym, ap, arith}
use Rattle.std.proofs.lemmas.Bool.Decides.{nat_tests}
use Rattle.std.proofs.lemmas.Bool.{and_parts}
use Rattle.justfile_vocabulary.specs.declared.token_kind.TokenKind.{TokenKind}
use Rattle.justfile_vocabulary.specs.declared.token_kind.TokenKind.TheVariants.{BracketL, Comment, Dedent, Eof, Eol, Indent}
use Rattle.justfile_model.specs.Lexing.Modes.{Mode, mode, mode_after, tail_of}
use Rattle.justfile_model.specs.Lexing.Tok.{Tok}
use Rattle.justfile_chunks.specs.Chunks.{IsCutAfter, ends_line, first_or, is_ignored, line_kind, next_kind}
use Rattle.justfile_chunks.specs.Cuts.{begins_no_item, depth_after, goes_on, is_cut, joins, line_after}

-- ---- the depth is the number of levels

pub levels_are : (k : TokenKind) (t : Tok) (m : Mode) → depth_after k (length m.levels) ≡ length (mode_after k t m).levels
levels_are Indent t m = omega arith
levels_are Dedent t m = by m.levels
  where
    by : (ls : List (List ℕ)) → depth_after Dedent (length ls) ≡ length (tail_of ls)
    by [] = refl
    by (l ∷ ls) = omega arith
levels_are _ t m = refl

pub depth_grows : (k : TokenKind) (depth : ℕ) → depth_after k depth ≤ depth + 1
depth_grows Indent depth = omega arith
depth_grows _ depth = omega arith

no_levels : (ls : List (List ℕ)) → nat_eq (length ls) 0 ≡ true → ls ≡ []
no_levels [] e = refl
no_levels (l ∷ ls) e = let bad : suc (length ls) ≡ 0 = grind (arith, nat_tests) in absurd (omega arith)

-- ---- the line's kind

pub line_is : (kind : TokenKind) (line : Option TokenKind) → line_after kind line ≡ cond (is_ignored kind) line (cond (ends_line kind) None (Some (first_or kind line)))
line_is kind None = refl
line_is kind (Some first) = refl

-- ---- the next line

goes_on_not : (next : Option TokenKind) → next ≢ Some Indent → next ≢ Some Eof → not (goes_on next) ≡ true
goes_on_not (Some Indent) f g = absurd (f refl)
goes_on_not (Some Eof) f g = absurd (g refl)
goes_on_not _ f g = refl

no_item : (next : Option TokenKind) → not (not (begins_no_item next)) ≡ true → (next ≡ Some Comment) ⊎ (next ≡ Some Eol)
no_item (Some Comment) e = inl refl
no_item (Some Eol) e = inr refl
no_item _ e = cc

joins_not : (line next : Option TokenKind) → line ≢ Some BracketL → (line ≡ Some Comment → (next ≡ Some Comment) ⊎ (next ≡ Some Eol)) → not (joins line next) ≡ true
joins_not (Some BracketL) next f g = absurd (f refl)
joins_not (Some Comment) next f g = ⊎_elim (λ e. ap (λ n. not (not (begins_no_item n))) e) (λ e. ap (λ n. not (not (begins_no_item n))) e) (g refl)
joins_not _ next f g = refl

-- ---- the test

module _ (t : Tok) (earlier later : List Tok) where
  abbrev test : Bool
  test = is_cut t.kind (length (mode (t ∷ earlier)).levels) (line_kind earlier) (next_kind later)

  pub cut_by : test ≡ true → IsCutAfter t earlier later
  cut_by e =
      let a = ends_line t.kind in
      let b = nat_eq (length (mode (t ∷ earlier)).levels) 0 in
      let c = not (goes_on (next_kind later)) in
      let d = not (joins (line_kind earlier) (next_kind later)) in
      let abc = and_parts (a && b && c) d e in
      let ab = and_parts (a && b) c abc.0 in
      let each = and_parts a b ab.0 in
      record {
        ends = each.0;
        outside = no_levels (mode (t ∷ earlier)).levels each.1;
        no_body = λ h. let bad : true ≡ false = sym ab.1 ∙ ap (λ n. not (goes_on n)) h in cc;
        no_attributes = λ h. let bad : true ≡ false = sym abc.1 ∙ ap (λ l. not (joins l (next_kind later))) h in cc;
        no_doc = λ h. no_item (next_kind later) (sym (ap (λ l. not (joins l (next_kind later))) h) ∙ abc.1);
        goes_on = λ h. let bad : true ≡ false = sym ab.1 ∙ ap (λ n. not (goes_on n)) h in cc;
      }

  pub cut_holds : IsCutAfter t earlier later → test ≡ true
  cut_holds c =
      let next = goes_on_not (next_kind later) c.no_body c.goes_on in
      let line = joins_not (line_kind earlier) (next_kind later) c.no_attributes c.no_doc in
      let level : nat_eq (length (mode (t ∷ earlier)).levels) 0 ≡ true = ap (λ (ls : List (List ℕ)). nat_eq (length ls) 0) c.outside in
      λ i. c.ends i && level i && next i && line i
