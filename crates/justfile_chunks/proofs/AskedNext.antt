-- What a cut asks of the token after it, and that the first byte of a line tells it.
use Rattle.std.proofs.Common.{◌≡◌, ◌∙◌, ℕ, Bool, true, false, cond, eqb, List, [], ◌∷◌, inl, inr, length, Option, Some, None, Ok, Err, refl, sym, ap, subst, arith, ⊎_elim}
use Rattle.std.proofs.lemmas.Bool.Decides.{nat_tests}
use Rattle.justfile_vocabulary.specs.declared.byte_class.ByteClass.{ByteClass}
use Rattle.justfile_vocabulary.specs.declared.byte_class.ByteClass.TheVariants as classes
use Rattle.justfile_vocabulary.specs.declared.token_kind.TokenKind.{TokenKind}
use Rattle.justfile_vocabulary.specs.declared.token_kind.TokenKind.TheVariants as kinds
use Rattle.justfile_vocabulary.specs.ByteClass.{class_of}
use Rattle.justfile_model.specs.declared.raw_text.RawText.TheVariants as raw_texts
use Rattle.justfile_model.specs.Lexing.Bytes.{white}
use Rattle.justfile_model.specs.Lexing.LexicalFault.{EscapeEndOfFile, Here}
use Rattle.justfile_model.specs.Lexing.LiteralText.{raw_len}
use Rattle.justfile_model.specs.Lexing.Modes.{mode, start_mode}
use Rattle.justfile_model.specs.Lexing.Next.{NextToken, escaped_line_end, layout, next, token_by_class, token_within_line, unknown}
use Rattle.justfile_model.specs.Lexing.SignificantTokens.{is_whitespace}
use Rattle.justfile_model.specs.Lexing.Tok.{Tok}
use Rattle.justfile_chunks.specs.Chunks.{IsCut, next_kind, text_of}
use Rattle.justfile_chunks.proofs.ChunkTokens.{Later}
use Rattle.justfile_chunks.proofs.CutModes.{Inside, IsInside, class_inside}
use Rattle.justfile_chunks.proofs.JoinedNext.{IsDark, starts}
use Rattle.justfile_chunks.proofs.SameModes.{some_same}
use Rattle.justfile_chunks.proofs.SameNext.{same_next}

-- ---- what is asked

-- of a token: whether it is an indent, a comment, a line end or the end
abbrev asked_of : TokenKind → Option TokenKind
asked_of kinds.Indent = Some kinds.Indent
asked_of kinds.Comment = Some kinds.Comment
asked_of kinds.Eol = Some kinds.Eol
asked_of kinds.Eof = Some kinds.Eof
asked_of _ = None

abbrev pub as_asked : Option TokenKind → Option TokenKind
as_asked None = None
as_asked (Some kind) = asked_of kind

-- after both a cut is the same
abbrev pub SameAsked : List Tok → List Tok → Type 0
SameAsked ts us = as_asked (next_kind ts) ≡ as_asked (next_kind us)

asked_is : (next : Option TokenKind) (k : TokenKind) → as_asked next ≡ Some k → next ≡ Some k
asked_is None k e = cc
asked_is (Some j) k e = by j e
  where
    by : (j : TokenKind) → asked_of j ≡ Some k → ◌≡◌ {A = Option TokenKind} (Some j) (Some k)
    by kinds.Indent e = cc
    by _ e = cc

pub cut_next : (e ts us : List Tok) → SameAsked ts us → IsCut e ts → IsCut e us
cut_next [] ts us same c = absurd c
cut_next (t ∷ e) ts us same c = record {
  ends = c.ends;
  outside = c.outside;
  no_body = λ h. c.no_body (asked_is (next_kind ts) kinds.Indent (same ∙ ap as_asked h));
  no_attributes = c.no_attributes;
  no_doc = λ h. ⊎_elim (λ n. inl (asked_is (next_kind us) kinds.Comment (sym same ∙ ap as_asked n)))
      (λ n. inr (asked_is (next_kind us) kinds.Eol (sym same ∙ ap as_asked n))) (c.no_doc h);
  goes_on = λ h. c.goes_on (asked_is (next_kind ts) kinds.Eof (same ∙ ap as_asked h));
}

-- ---- what the first byte tells

abbrev TellsBy : Option TokenKind → NextToken → Type 0
TellsBy asked (Ok x) = (is_whitespace x.0 ≡ false) × (asked_of x.0 ≡ asked)
TellsBy asked (Err r) = Unit {0}

-- a token that is found is no whitespace, and this is what is asked of it
record Tells (asked : Option TokenKind) (found : NextToken) : Type 0 where
  tells : TellsBy asked found

inside_tells : (x : NextToken) → Inside x → Tells None x
inside_tells (Ok x) h = record { tells = by x.0 h.inside }
  where
    by : (k : TokenKind) → IsInside k → (is_whitespace k ≡ false) × (asked_of k ≡ None)
    by kinds.Comment h = absurd h
    by kinds.Dedent h = absurd h
    by kinds.Eof h = absurd h
    by kinds.Eol h = absurd h
    by kinds.Indent h = absurd h
    by kinds.Whitespace h = absurd h
    by _ h = (refl, refl)
inside_tells (Err r) h = record { tells = tt }

-- after a line feed or at the start of a text
module _ (d : ℕ) (dark : IsDark d) where
  -- by the class of the byte
  abbrev told_by : ByteClass → Option TokenKind
  told_by classes.Other = cond (eqb d 35) (Some kinds.Comment) None
  told_by _ = None

  module _ (v : List ℕ) where
    found_is : next start_mode (d ∷ v) ≡ token_by_class start_mode (class_of d) (d ∷ v)
    unfolding token_within_line
    found_is = starts d dark start_mode v refl refl

    class_tells : (k : ByteClass) → white k ≡ false → eqb d 92 ≡ false → Tells (told_by k) (token_by_class start_mode k (d ∷ v))
    unfolding token_by_class
    class_tells classes.Other h no_backslash = by (eqb d 35)
      where
        by : (b : Bool) → Tells (cond b (Some kinds.Comment) None)
            (cond b (Ok (kinds.Comment, raw_len raw_texts.Comment (d ∷ v))) (cond (eqb d 92) (escaped_line_end (d ∷ v)) (unknown (d ∷ v))))
        by true = record { tells = (refl, refl) }
        by false = subst (λ t. Tells None (cond t (escaped_line_end (d ∷ v)) (unknown (d ∷ v)))) (sym no_backslash) (record { tells = tt })
    class_tells classes.Blank h no_backslash = cc
    class_tells classes.LineFeed h no_backslash = cc
    class_tells classes.CarriageReturn h no_backslash = cc
    class_tells k h no_backslash = inside_tells _ (class_inside start_mode (d ∷ v) k tt)

    first_found : (e : List Tok) (t : Tok) (ts : List Tok) → Later e (t ∷ ts) → text_of (t ∷ ts) ≡ d ∷ v
        → next start_mode (d ∷ v) ≡ Ok (t.kind, length t.lexeme)
    first_found e t ts h is =
        some_same (t.kind, length t.lexeme) _ _ (same_next (mode e) start_mode (d ∷ v) h.same)
        (subst (λ x. next (mode e) x ≡ Ok (t.kind, length t.lexeme)) is h.run.2)

    asked_by_byte : (e later : List Tok) → Later e later → text_of later ≡ d ∷ v → eqb d 92 ≡ false → as_asked (next_kind later) ≡ told_by (class_of d)
    asked_by_byte e [] h is no_backslash = cc
    asked_by_byte e (t ∷ ts) h is no_backslash =
        let tells = (subst (Tells (told_by (class_of d))) (sym found_is ∙ first_found e t ts h is)
        (class_tells (class_of d) dark.is_white no_backslash)).tells in
        ap (λ b. as_asked (cond b (next_kind ts) (Some t.kind))) tells.0 ∙ tells.1

  backslash_alone : (x : TokenKind × ℕ) → next start_mode (92 ∷ []) ≡ Ok x → ⊥
  unfolding next layout token_within_line token_by_class class_of
  backslash_alone x e = let bad : ◌≡◌ {A = NextToken} (Err (Here EscapeEndOfFile 0 1)) (Ok x) = e in cc

  -- alone, the byte is no backslash
  no_backslash : (e later : List Tok) → Later e later → text_of later ≡ d ∷ [] → eqb d 92 ≡ false
  no_backslash e [] h is = cc
  no_backslash e (t ∷ ts) h is = by (eqb d 92) refl
    where
      by : (b : Bool) → eqb d 92 ≡ b → eqb d 92 ≡ false
      by true is_it =
          let at : d ≡ 92 = grind (arith, nat_tests) in
          absurd (backslash_alone (t.kind, length t.lexeme) (subst (λ x. next start_mode (x ∷ []) ≡ Ok (t.kind, length t.lexeme)) at (first_found [] e t ts h is)))
      by false is_it = is_it

  -- tokens that begin with the byte alone, and others that begin with it, are asked the same
  pub same_by_byte : (e later f others : List Tok) (v : List ℕ) → Later e later → text_of later ≡ d ∷ [] → Later f others → text_of others ≡ d ∷ v
      → SameAsked later others
  same_by_byte e later f others v h is k are =
      let other = no_backslash e later h is in
      asked_by_byte [] e later h is other ∙ sym (asked_by_byte v f others k are other)
