-- Proofs of the laws of the sinks.
use Rattle.std.specs.Prelude.{◌≡◌, ℕ, List, [], ◌∷◌, ◌++◌}
use Rattle.std.proofs.Common.{refl, sym, ap, ap₂, subst, ◌∙◌, append_assoc}
use Rattle.std.specs.Fmt.{IsPlainFormatter, HasWritten}
use Rattle.std.specs.List.{FoldsTo, concat}
use Rattle.std.specs.declared.fmt.Formatter.{Formatter}

pub text_more : (a b c xs ys : List ℕ) → b ≡ a ++ xs → c ≡ b ++ ys → c ≡ a ++ (xs ++ ys)
text_more a b c xs ys p q = q ∙ ap (λ l. l ++ ys) p ∙ append_assoc a xs ys

-- a formatter without options has written the text
abbrev pub Displays : {W : Type 0} → (W → List ℕ → W → Type 0) → Formatter W → List ℕ → Formatter W → Type 0
Displays gives f text g = IsPlainFormatter f → HasWritten gives f text g

module _ {W : Type 0} (gives : W → List ℕ → W → Type 0) where
  calls_append : (w : W) (xs : List (List ℕ)) (v : W) (ys : List (List ℕ)) (u : W) → FoldsTo gives w xs v → FoldsTo gives v ys u → FoldsTo gives w (xs ++ ys) u
  calls_append w [] v ys u p q = subst (λ (x : W). FoldsTo gives x ys u) (sym p) q
  calls_append w (x ∷ xs) v ys u p q = (p.0, p.1, calls_append p.0 xs v ys u p.2 q)

  concat-append : (xs ys : List (List ℕ)) → concat (xs ++ ys) ≡ concat xs ++ concat ys
  concat-append [] ys = refl
  concat-append (x ∷ xs) ys = ap (λ (l : List ℕ). x ++ l) (concat-append xs ys) ∙ sym (append_assoc x (concat xs) (concat ys))

  pub displays_nothing : (f : Formatter W) → Displays gives f [] f
  displays_nothing f plain = record { wrote = record { parts = []; calls = refl; whole = refl }; plain = plain }

  pub displays_more : (f g h : Formatter W) (xs ys : List ℕ) → Displays gives f xs g → Displays gives g ys h → Displays gives f (xs ++ ys) h
  displays_more f g h xs ys p q plain =
      let first = p plain in
      let second = q first.plain in
      record {
        wrote = record {
          parts = first.wrote.parts ++ second.wrote.parts;
          calls = calls_append f.writer first.wrote.parts g.writer second.wrote.parts h.writer first.wrote.calls second.wrote.calls;
          whole = concat-append first.wrote.parts second.wrote.parts ∙ ap₂ (λ (k l : List ℕ). k ++ l) first.wrote.whole second.wrote.whole;
        };
        plain = second.plain;
      }
