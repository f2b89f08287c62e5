-- What a formatter has written of a text that may be unknown.
use Rattle.std.proofs.Common.{◌≡◌, ◌∙◌, ℕ, suc, zero, ◌+◌, ◌<◌, List, [], ◌∷◌, ◌++◌, length, get_or, drop, Option, None, Some, IfSome, Ok, codes, refl, sym, ap, append_assoc, arith}
use Rattle.std.specs.Fmt.{DisplaysOnOk, HasWritten, IsPlainFormatter, option_append, ◌++?◌}
use Rattle.std.specs.declared.fmt.Formatter.{Formatter}
use Rattle.std.proofs.lemmas.Grind.{put_two}
use Rattle.justfile_attribute.specs.Interpreter.{later_output}

one_after : (o p q : Option (List ℕ)) → option_append (option_append o p) q ≡ option_append o (option_append p q)
one_after None p q = refl
one_after (Some a) None q = refl
one_after (Some a) (Some b) None = refl
one_after (Some a) (Some b) (Some c) = ap Some (append_assoc a b c)

later_left : {T : Type 0} (output : T → Option (List ℕ)) (xs : List T) (i : ℕ) (x : T) → i < length xs → x ≡ get_or xs i x
    → later_output output (drop i xs) ≡ (Some (codes ", ") ++? output x) ++? later_output output (drop (i + 1) xs)
later_left output [] i x h e = absurd (omega arith)
later_left output (y ∷ xs) zero x h e = ap (λ z. (Some (codes ", ") ++? output z) ++? later_output output xs) (sym e)
later_left output (y ∷ xs) (suc i) x h e =
    let next : suc (i + 1) ≡ suc i + 1 = omega arith in
    later_left output xs i x (omega arith) e ∙ ap (λ (j : ℕ). (Some (codes ", ") ++? output x) ++? later_output output (drop j (y ∷ xs))) next

module _ {W : Type 0} (gives : W → List ℕ → W → Type 0) where
  -- the formatter has written the text, if it is known
  abbrev pub Shown : Formatter W → Option (List ℕ) → Formatter W → Type 0
  Shown f text g = IfSome text (λ bs. IsPlainFormatter f → HasWritten gives f bs g)

  -- the formatter has written all of the text but the rest, if it is known
  abbrev pub ShownBut : Formatter W → Formatter W → (whole rest : Option (List ℕ)) → Type 0
  ShownBut f g whole rest = (text : Option (List ℕ)) × Shown f text g × (option_append text rest ≡ whole)

  pub shown : (f g : Formatter W) (text : Option (List ℕ)) → DisplaysOnOk gives f (Ok tt) text g → Shown f text g
  shown f g None p = tt
  shown f g (Some bs) p = λ plain. p plain refl

  shown_more : (f g h : Formatter W) (o p : Option (List ℕ)) → Shown f o g → Shown g p h → Shown f (option_append o p) h
  shown_more f g h None p a b = tt
  shown_more f g h (Some xs) None a b = tt
  shown_more f g h (Some xs) (Some ys) a b = λ plain. let first = a plain in put_two gives f g h xs ys (xs ++ ys) first (b first.plain) refl

  module _ {T : Type 0} (output : T → Option (List ℕ)) (xs : List T) (f g : Formatter W) (whole : Option (List ℕ)) where
    pub shown_on : (i : ℕ) (x : T) → i < length xs → x ≡ get_or xs i x → ShownBut f g whole (later_output output (drop i xs))
        → (h : Formatter W) → Shown g (Some (codes ", ") ++? output x) h → ShownBut f h whole (later_output output (drop (i + 1) xs))
    shown_on i x here e so_far h p = (
      so_far.0 ++? (Some (codes ", ") ++? output x),
      shown_more f g h so_far.0 _ so_far.1 p,
      one_after so_far.0 (Some (codes ", ") ++? output x) _ ∙ ap (option_append so_far.0) (sym (later_left output xs i x here e)) ∙ so_far.2,
    )
