-- The lines of a text: where the text is split, and that the lines together are the text.
use Rattle.std.proofs.Common.{◌≡◌, ℕ, suc, ◌<◌, false, List, [], ◌∷◌, ◌++◌, length, get_or, take, drop, refl, sym, ap, ◌∙◌, subst, inl, inr, arith, append_assoc, ne_eqb, length-append, length-drop, take-suc, Some, None, Option}
use Rattle.std.specs.Prelude.{◌==◌}
use Rattle.std.specs.List.{All, onto_first, concat}
use Rattle.std.specs.Str.{NoCharPasses}
use Rattle.std.specs.Str.Iter.{split_inclusive_pattern, split_inclusive_steps, split_inclusive_text}
use Rattle.std.specs.Str.Pattern.{FindsChar}
use Rattle.std.specs.Option.{MatchOption}
use Rattle.std.proofs.lemmas.Bool.{cases_eq}
use Rattle.std.proofs.lemmas.Iterator.{YieldsList}
use Rattle.std.proofs.lemmas.Iterator.Splits.{YieldsList-from_shown_while}
use Rattle.std.proofs.lemmas.List.{append_cancel_left, get_or_default, nil_from_length, take-append-drop}
use Rattle.std.proofs.lemmas.List.Elements.{All-head, All-tail}
use Rattle.std.proofs.lemmas.Str.{NoCharPasses-byte, encode_ascii}
use Rattle.justfile_model.specs.LiteralTexts.Unindent.{lines_of_text}

lacks_feed : (bs : List ℕ) → NoCharPasses (λ d. d == 10) bs → All (λ b. (b == 10) ≡ false) bs
lacks_feed bs h k d l = elim (cases_eq (get_or bs k d) 10) [
  | inl e ↦
      let same = get_or_default bs k 0 d l in
      subst (λ b. (b == 10) ≡ false) same (NoCharPasses-byte (λ c. c == 10) bs k h l (omega (arith, same, e)))
  | inr e ↦ ne_eqb _ 10 e
]

lines_last : (bs : List ℕ) → 0 < length bs → All (λ b. (b == 10) ≡ false) bs → lines_of_text bs ≡ bs ∷ []
lines_last [] l h = absurd (omega arith)
lines_last (b ∷ []) l h = rw (All-head (λ x. (x == 10) ≡ false) b [] h) refl
lines_last (b ∷ c ∷ cs) l h =
    rw (All-head (λ x. (x == 10) ≡ false) b (c ∷ cs) h) (ap (onto_first b) (lines_last (c ∷ cs) (omega arith) (All-tail (λ x. (x == 10) ≡ false) b (c ∷ cs) h)))

lines_first : (bs rest : List ℕ) → All (λ b. (b == 10) ≡ false) bs → lines_of_text (bs ++ 10 ∷ rest) ≡ (bs ++ 10 ∷ []) ∷ lines_of_text rest
lines_first [] rest h = refl
lines_first (b ∷ bs) rest h =
    rw (All-head (λ x. (x == 10) ≡ false) b bs h) (ap (onto_first b) (lines_first bs rest (All-tail (λ x. (x == 10) ≡ false) b bs h)))

-- what is cut at the first line feed is a line
line_cut : (w x rest : List ℕ) (o : Option (ℕ × ℕ)) → FindsChar 10 w o → MatchOption o ((x ≡ w) × (0 < length w)) (λ q. 0 < q.1 → x ≡ take q.1 w) → w ≡ x ++ rest → lines_of_text w ≡ x ∷ lines_of_text rest
line_cut w x rest None f g e =
    let none : rest ≡ [] = nil_from_length rest (omega (arith, ap length e, length-append x rest, ap length g.0)) in
    lines_last w g.1 (lacks_feed w f) ∙ (λ i. sym g.0 i ∷ lines_of_text (sym none i))
line_cut w x rest (Some q) f g e =
    let front : List ℕ = take q.0 w in
    let later : List ℕ = drop q.1 w in
    let after : drop q.0 w ≡ 10 ∷ later = f.1.split ∙ ap (λ v. v ++ later) (encode_ascii 10 (omega arith)) in
    let inside : q.0 < length w = omega (arith, ap length after, length-drop q.0 w) in
    let end : q.1 ≡ suc q.0 = omega (arith, f.1.ends) in
    let whole : w ≡ front ++ 10 ∷ later = sym (take-append-drop q.0 w) ∙ ap (λ v. front ++ v) after in
    let cut : x ≡ front ++ 10 ∷ [] = g (omega arith) ∙ ap (λ n. take n w) end ∙ take-suc w q.0 0 inside ∙ ap (λ b. front ++ (b ∷ [])) (f.1.byte (omega arith)) in
    let left : rest ≡ later = append_cancel_left x rest later (sym e ∙ whole ∙ sym (append_assoc front (10 ∷ []) later) ∙ ap (λ v. v ++ later) (sym cut)) in
    ap lines_of_text whole ∙ lines_first front later (lacks_feed front f.0) ∙ (λ i. sym cut i ∷ lines_of_text (sym left i))

pub lines_yielded : {s : _} (bs : List ℕ) → split_inclusive_text {P = ℕ} s ≡ bs → split_inclusive_pattern s ≡ 10 → YieldsList (split_inclusive_steps FindsChar (λ a b. b ≡ a)) (λ x. x.now) s (lines_of_text bs)
lines_yielded {s} bs text pattern =
    subst (λ v. YieldsList (split_inclusive_steps FindsChar (λ a b. b ≡ a)) (λ x. x.now) s (lines_of_text v)) text
    (YieldsList-from_shown_while (split_inclusive_steps FindsChar (λ a b. b ≡ a)) (λ x. x.now) (λ t. lines_of_text (split_inclusive_text t)) (λ t. split_inclusive_pattern t ≡ 10)
    (λ t u h k. ap (λ v. length (lines_of_text v)) (nil_from_length _ k.1.0))
    (λ t x u h k. let m = k.1.1 in (k.0 ∙ h, line_cut (split_inclusive_text t) x.now (split_inclusive_text u) m.0 (subst (λ p. FindsChar p (split_inclusive_text t) m.0) h m.1) m.2 k.1.0))
    s pattern)

-- ---- the lines are the text
pub lines_whole : (text : List ℕ) → concat (lines_of_text text) ≡ text
lines_whole [] = refl
lines_whole (b ∷ bs) = grind (arith, lines_whole bs)
