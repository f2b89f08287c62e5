-- The walk over the slots of an attribute.
use Rattle.std.proofs.Common.{◌≡◌, ◌∙◌, ℕ, zero, suc, ◌+◌, Bool, ◌||◌, is_some, List, [], ◌∷◌, ◌++◌, drop, Option, None, Some, Result, refl, sym, ap, subst, append_assoc, arith}
use Rattle.std.specs.List.{slice_get}
use Rattle.justfile_token.specs.Sink.{Puts}
use Rattle.justfile_token.proofs.PutLemmas.{put_last}
use Rattle.justfile_attribute.specs.Print.{Slots, closing, slot_piece, slot_text, slots_text}
use Rattle.justfile_attribute.specs.declared.part.Part.{Part}

-- all of a text but this rest is written
abbrev pub Walked : {S : Type 0} (took : S → List ℕ → S → Type 0) (a m : S) (whole rest : List ℕ) → Type 0
Walked took a m whole rest = (text : List ℕ) × took a text m × (text ++ rest ≡ whole)

-- an argument is present exactly if it has a text
pub is_there : (p : Option Part) → is_some p ≡ is_some (slot_text p)
is_there None = refl
is_there (Some p) = refl

-- the text from a slot on
left_at : (begun : Bool) (xs : Slots) (i : ℕ) (x : Option (List ℕ)) → Some x ≡ slice_get xs i
    → slots_text begun (drop i xs) ≡ slot_piece begun x ++ slots_text (begun || is_some x) (drop (i + 1) xs)
left_at begun [] i x e = absurd cc
left_at begun (y ∷ xs) zero x e = ap (λ (z : Option (List ℕ)). slot_piece begun z ++ slots_text (begun || is_some z) xs) cc
left_at begun (y ∷ xs) (suc i) x e =
    let next : suc (i + 1) ≡ suc i + 1 = omega arith in
    left_at begun xs i x e ∙ ap (λ (j : ℕ). slot_piece begun x ++ slots_text (begun || is_some x) (drop j (y ∷ xs))) next

left_none : (begun : Bool) (xs : Slots) (i : ℕ) → None ≡ slice_get xs i → slots_text begun (drop i xs) ≡ closing begun
left_none begun [] zero e = refl
left_none begun [] (suc i) e = refl
left_none begun (x ∷ xs) zero e = absurd cc
left_none begun (x ∷ xs) (suc i) e = left_none begun xs i e

module _ {S : Type 0} (took failed : S → List ℕ → S → Type 0)
    (more : (a b c : S) (xs ys : List ℕ) → took a xs b → took b ys c → took a (xs ++ ys) c)
    (later : (a b c : S) (xs ys : List ℕ) → took a xs b → failed b ys c → failed a (xs ++ ys) c)
    (before : (a b : S) (xs ys : List ℕ) → failed a xs b → failed a (xs ++ ys) b)
    (a m : S) (whole : List ℕ) (begun : Bool) (xs : Slots) (i : ℕ) (walked : Walked took a m whole (slots_text begun (drop i xs))) where
  module _ (x : Option (List ℕ)) (there : Some x ≡ slice_get xs i) where
    further : (walked.0 ++ slot_piece begun x) ++ slots_text (begun || is_some x) (drop (i + 1) xs) ≡ whole
    further = append_assoc walked.0 (slot_piece begun x) _ ∙ ap (λ t. walked.0 ++ t) (sym (left_at begun xs i x there)) ∙ walked.2

    pub walked_on : (n : S) → took m (slot_piece begun x) n → Walked took a n whole (slots_text (begun || is_some x) (drop (i + 1) xs))
    walked_on n p = (walked.0 ++ slot_piece begun x, more a m n _ _ walked.1 p, further)

    pub stopped : (n : S) → failed m (slot_piece begun x) n → failed a whole n
    stopped n p = subst (λ (t : List ℕ). failed a t n) further (before a n _ _ (later a m n _ _ walked.1 p))

  module _ (past : None ≡ slice_get xs i) where
    end_is : walked.0 ++ closing begun ≡ whole
    end_is = ap (λ t. walked.0 ++ t) (sym (left_none begun xs i past)) ∙ walked.2

    pub ended : {T E : Type 0} (n : S) (r : Result T E) → Puts took failed m r (closing begun) n → Puts took failed a r whole n
    ended n r p = subst (λ (t : List ℕ). Puts took failed a r t n) end_is (put_last took failed more later a m n _ _ r walked.1 p)
