-- Tokens are cut up by computing: whether there is a cut is decided by the kinds and the levels.
use Rattle.std.proofs.Common.{◌≡◌, ◌≢◌, ◌⊎◌, Bool, true, false, List, [], ◌∷◌, Option, Some, None, is_some, refl, ap, inl, inr}
use denote.Enum.Bare.{same_true, sameb, true_same}
use Rattle.justfile_vocabulary.specs.contracts.token_kind.TokenKind.{the_type}
use Rattle.justfile_vocabulary.specs.declared.token_kind.TokenKind.{TokenKind}
use Rattle.justfile_vocabulary.specs.declared.token_kind.TokenKind.TheVariants as kinds
use Rattle.justfile_model.specs.Lexing.Modes.{is_empty, mode}
use Rattle.justfile_model.specs.Lexing.Tok.{Tok}
use Rattle.justfile_model.proofs.Lists.Binds.{some_back}
use Rattle.justfile_chunks.specs.Chunks.{IsCutAfter, Parts, cut, ends_line, last, line_kind, next_kind, uncut}
use Rattle.justfile_chunks.proofs.Passes.{clash}

abbrev Decided : Type 0 → Type 0
Decided P = P ⊎ (P → ⊥)

abbrev refuted : {P : Type 0} → Decided P → Decided (P → ⊥)
refuted (inl p) = inr (λ n. n p)
refuted (inr n) = inl n

abbrev neither : {P Q : Type 0} → (P → ⊥) → (Q → ⊥) → P ⊎ Q → ⊥
neither n m (inl p) = n p
neither n m (inr q) = m q

abbrev one_of : {P Q : Type 0} → Decided P → Decided Q → Decided (P ⊎ Q)
one_of (inl p) d = inl (inl p)
one_of (inr n) (inl q) = inl (inr q)
one_of (inr n) (inr m) = inr (neither n m)

abbrev only_if : {P Q : Type 0} → Decided P → Decided Q → Decided (P → Q)
only_if (inr n) d = inl (λ p. absurd (n p))
only_if (inl p) (inl q) = inl (λ x. q)
only_if (inl p) (inr m) = inr (λ f. m (f p))

-- decided by a test that passes exactly if it holds
abbrev tested : {P : Type 0} (b : Bool) → (b ≡ true → P) → (P → b ≡ true) → Decided P
tested true holds passes = inl (holds refl)
tested false holds passes = inr (λ p. clash refl (passes p))

abbrev is_nil : {X : Type 0} (xs : List X) → Decided (xs ≡ [])
is_nil [] = inl refl
is_nil (x ∷ xs) = inr (λ e. clash refl (ap is_empty e))

abbrev is_kind : (kind : TokenKind) (o : Option TokenKind) → Decided (o ≡ Some kind)
is_kind kind None = inr (λ e. clash refl (ap is_some e))
is_kind kind (Some k) = tested (sameb the_type k kind) (λ e. ap Some (same_true the_type tt k kind e)) (λ e. true_same the_type k kind (some_back k kind e))

module _ (t : Tok) (earlier later : List Tok) where
  abbrev all : Decided (ends_line t.kind ≡ true) → Decided ((mode (t ∷ earlier)).levels ≡ []) → Decided (next_kind later ≢ Some kinds.Indent)
      → Decided (line_kind earlier ≢ Some kinds.BracketL)
      → Decided (line_kind earlier ≡ Some kinds.Comment → (next_kind later ≡ Some kinds.Comment) ⊎ (next_kind later ≡ Some kinds.Eol))
      → Decided (next_kind later ≢ Some kinds.Eof) → Decided (IsCutAfter t earlier later)
  all (inr n) b c d e f = inr (λ h. n h.ends)
  all (inl a) (inr n) c d e f = inr (λ h. n h.outside)
  all (inl a) (inl b) (inr n) d e f = inr (λ h. n h.no_body)
  all (inl a) (inl b) (inl c) (inr n) e f = inr (λ h. n h.no_attributes)
  all (inl a) (inl b) (inl c) (inl d) (inr n) f = inr (λ h. n h.no_doc)
  all (inl a) (inl b) (inl c) (inl d) (inl e) (inr n) = inr (λ h. n h.goes_on)
  all (inl a) (inl b) (inl c) (inl d) (inl e) (inl f) =
      inl (record { ends = a; outside = b; no_body = c; no_attributes = d; no_doc = e; goes_on = f })

  abbrev decided : Decided (IsCutAfter t earlier later)
  decided =
      all (tested (ends_line t.kind) (λ e. e) (λ e. e)) (is_nil (mode (t ∷ earlier)).levels) (refuted (is_kind kinds.Indent (next_kind later)))
      (refuted (is_kind kinds.BracketL (line_kind earlier)))
      (only_if (is_kind kinds.Comment (line_kind earlier)) (one_of (is_kind kinds.Comment (next_kind later)) (is_kind kinds.Eol (next_kind later))))
      (refuted (is_kind kinds.Eof (next_kind later)))

-- tokens, in parts
pub record CutUp (earlier later : List Tok) : Type 0 where
  pub first : List Tok
  pub others : List (List Tok)
  pub are : Parts earlier later (first ∷ others)

abbrev joined : (earlier later : List Tok) (t u : Tok) → Decided (IsCutAfter t earlier (u ∷ later)) → CutUp (t ∷ earlier) (u ∷ later)
    → CutUp earlier (t ∷ u ∷ later)
joined earlier later t u (inl is) c = record { first = t ∷ []; others = c.first ∷ c.others; are = cut is c.are }
joined earlier later t u (inr is) c = record { first = t ∷ c.first; others = c.others; are = uncut is c.are }

abbrev pub cut_up : (earlier : List Tok) (t : Tok) (later : List Tok) → CutUp earlier (t ∷ later)
cut_up earlier t [] = record { first = t ∷ []; others = []; are = last }
cut_up earlier t (u ∷ later) = joined earlier later t u (decided t earlier (u ∷ later)) (cut_up (t ∷ earlier) u later)
