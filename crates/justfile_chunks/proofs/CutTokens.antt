-- A cut between tokens is one between the significant ones among them.
use Rattle.std.proofs.Common.{◌≡◌, ◌⊎◌, ◌∙◌, Bool, true, false, cond, List, [], ◌∷◌, ◌++◌, Option, Some, refl, sym, ap, subst, append-nil, arith}
use Rattle.std.proofs.lemmas.Bool.Decides.{nat_tests}
use Rattle.std.specs.Prelude.{reverse}
use Rattle.justfile_vocabulary.specs.declared.token_kind.TokenKind.{TokenKind}
use Rattle.justfile_vocabulary.specs.declared.token_kind.TokenKind.TheVariants as kinds
use Rattle.justfile_model.specs.Grammars.Expressions.{Tokens}
use Rattle.justfile_model.specs.Lexing.Modes.{Mode, mode, mode_after}
use Rattle.justfile_model.specs.Lexing.SignificantTokens.{SignificantToken, is_whitespace, significant_from}
use Rattle.justfile_model.specs.Lexing.Tok.{Tok}
use Rattle.justfile_model.proofs.Lexing.UnclosedLaws.{reverse_more}
use Rattle.justfile_chunks.specs.Chunks.{IsCutAfter, ends_line, line_kind, next_kind}
use Rattle.justfile_chunks.proofs.Passes.{CutAfter, CutHere, bare, in_body, line_with, open_after}
use Rattle.justfile_chunks.proofs.Sides.{behind}

abbrev pub significant : Tok → Bool → SignificantToken
significant t glued = record { tok = t; glued = glued }

pub ends_dark : (k : TokenKind) → ends_line k ≡ true → is_whitespace k ≡ false
ends_dark kinds.Whitespace e = sym e
ends_dark _ e = refl

-- ---- tokens up to one, and those after it

pub significant_append : (ts : List Tok) (t : Tok) (us : List Tok) (glued : Bool) → is_whitespace t.kind ≡ false
    → significant_from glued (ts ++ (t ∷ us)) ≡ significant_from glued (ts ++ (t ∷ [])) ++ significant_from true us
significant_append [] t us glued e =
    ap (λ b. cond b (significant_from false us) (significant t glued ∷ significant_from true us)) e
    ∙ sym (ap (λ b. cond b [] (significant t glued ∷ []) ++ significant_from true us) e)
significant_append (a ∷ ts) t us glued e =
    grind (arith, nat_tests, significant_append ts t us false e, significant_append ts t us true e)

-- `xs` are `ys` and the token `t`
record EndsWith (earlier xs ys : Tokens) (t : Tok) : Type 0 where
  is_glued : Bool
  is : behind earlier xs ≡ significant t is_glued ∷ behind earlier ys

ends_with : (ts : List Tok) (t : Tok) (glued : Bool) (earlier : Tokens) → is_whitespace t.kind ≡ false
    → EndsWith earlier (significant_from glued (ts ++ (t ∷ []))) (significant_from glued ts) t
ends_with [] t glued earlier e = record { is_glued = glued; is = ap (λ b. behind earlier (cond b [] (significant t glued ∷ []))) e }
ends_with (a ∷ ts) t glued earlier e = by (is_whitespace a.kind) (ends_with ts t false earlier e) (ends_with ts t true (significant a glued ∷ earlier) e)
  where
    by : {xs ys xs' ys' : Tokens} (b : Bool) → EndsWith earlier xs ys t → EndsWith (significant a glued ∷ earlier) xs' ys' t
        → EndsWith earlier (cond b xs (significant a glued ∷ xs')) (cond b ys (significant a glued ∷ ys')) t
    by true h k = h
    by false h k = record { is_glued = k.is_glued; is = k.is }

-- ---- what whitespace doesn't change

-- F and G go from token to token by their kinds.
module _ {X : Type 0} (f : TokenKind → X → X) (white : (k : TokenKind) (x : X) → is_whitespace k ≡ true → f k x ≡ x) (F : Tokens → X) (G : List Tok → X)
    (F_is : (t : SignificantToken) (earlier : Tokens) → F (t ∷ earlier) ≡ f t.tok.kind (F earlier))
    (G_is : (t : Tok) (earlier : List Tok) → G (t ∷ earlier) ≡ f t.kind (G earlier)) where
  same_after : (ts : List Tok) (glued : Bool) (earlier : Tokens) (all : List Tok) → F earlier ≡ G all
      → F (behind earlier (significant_from glued ts)) ≡ G (reverse ts ++ all)
  same_after [] glued earlier all h = h
  same_after (t ∷ ts) glued earlier all h =
      by (same_after ts false earlier (t ∷ all)) (same_after ts true (significant t glued ∷ earlier) (t ∷ all)) (is_whitespace t.kind) refl
      ∙ sym (ap G (reverse_more t ts all))
    where
      by : (F earlier ≡ G (t ∷ all) → F (behind earlier (significant_from false ts)) ≡ G (reverse ts ++ (t ∷ all)))
          → (F (significant t glued ∷ earlier) ≡ G (t ∷ all) → F (behind (significant t glued ∷ earlier) (significant_from true ts)) ≡ G (reverse ts ++ (t ∷ all)))
          → (b : Bool) → is_whitespace t.kind ≡ b
          → F (behind earlier (cond b (significant_from false ts) (significant t glued ∷ significant_from true ts))) ≡ G (reverse ts ++ (t ∷ all))
      by i j true e = i (h ∙ sym (white t.kind (G all) e) ∙ sym (G_is t all))
      by i j false e = j (F_is (significant t glued) earlier ∙ ap (f t.kind) h ∙ sym (G_is t all))

line_white : (k : TokenKind) (line : Option TokenKind) → is_whitespace k ≡ true → line_with k line ≡ line
line_white kinds.Whitespace line e = refl
line_white _ line e = cc

body_white : (k : TokenKind) (body : Bool) → is_whitespace k ≡ true → open_after k body ≡ body
body_white kinds.Whitespace body e = refl
body_white _ body e = cc

-- whether a body is open after the earlier tokens, whitespace included
abbrev body_open : List Tok → Bool
body_open [] = false
body_open (t ∷ earlier) = open_after t.kind (body_open earlier)

line_is : (ts : List Tok) → line_kind (bare (behind [] (significant_from false ts))) ≡ line_kind (reverse ts)
line_is ts =
    same_after line_with line_white (λ s. line_kind (bare s)) line_kind (λ t earlier. refl) (λ t earlier. refl) ts false [] [] refl
    ∙ ap line_kind (append-nil (reverse ts))

body_is : (ts : List Tok) → in_body (behind [] (significant_from false ts)) ≡ body_open (reverse ts)
body_is ts =
    same_after open_after body_white in_body body_open (λ t earlier. refl) (λ t earlier. refl) ts false [] [] refl ∙ ap body_open (append-nil (reverse ts))

no_level : (earlier : List Tok) → (mode earlier).levels ≡ [] → body_open earlier ≡ false
no_level [] h = refl
no_level (t ∷ earlier) h = by (mode earlier) (no_level earlier) t.kind h
  where
    by : (m : Mode) → (m.levels ≡ [] → body_open earlier ≡ false) → (k : TokenKind) → (mode_after k t m).levels ≡ [] → open_after k (body_open earlier) ≡ false
    by m i kinds.Indent e = cc
    by m i kinds.Dedent e = refl
    by m i _ e = i e

pub next_is : (us : List Tok) (glued : Bool) → next_kind (bare (significant_from glued us)) ≡ next_kind us
next_is [] glued = refl
next_is (t ∷ us) glued = grind (arith, nat_tests, next_is us false)

pub cut_here : (front : List Tok) (t : Tok) (later : List Tok) → IsCutAfter t (reverse front) later
    → CutHere (significant_from true later) (behind [] (significant_from false (front ++ (t ∷ []))))
cut_here front t later c =
    let w = ends_with front t false [] (ends_dark t.kind c.ends) in
    let cut : CutAfter (significant_from true later) (significant t w.is_glued) (behind [] (significant_from false front)) = record {
      ends = c.ends;
      outside = ap (open_after t.kind) (body_is front) ∙ no_level (t ∷ reverse front) c.outside;
      no_body = λ e. c.no_body (sym (next_is later true) ∙ e);
      no_attributes = λ e. c.no_attributes (sym (line_is front) ∙ e);
      no_doc = λ e. subst (λ n. (n ≡ Some kinds.Comment) ⊎ (n ≡ Some kinds.Eol)) (sym (next_is later true)) (c.no_doc (sym (line_is front) ∙ e));
    } in
    subst (CutHere (significant_from true later)) (sym w.is) cut
