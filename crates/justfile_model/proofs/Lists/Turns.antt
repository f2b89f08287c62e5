-- The laws of `recursive`.
use Rattle.std.proofs.Common.{◌≡◌, ℕ, zero, suc, ◌<◌, Bool, true, false, cond, nat_lt, refl, subst, ap, arith, ◌∙◌}
use Rattle.std.proofs.lemmas.Bool.Decides.{nat_tests}
use Rattle.justfile_model.specs.Lists.Recursive.{below, turns, recursive}

module _ {X : Type 0} {R : X → Type 0} (size : X → ℕ) (stop : (x : X) → R x) (rule : ((y : X) → R y) → (x : X) → R x) where
  -- a call at a smaller size is the call
  pub below_smaller : (x : X) (f : (y : X) → R y) (y : X) → size y < size x → below size stop rule x f y ≡ f y
  unfolding below
  below_smaller x f y h =
      let t : nat_lt (size y) (size x) ≡ true = grind (arith, nat_tests) in
      ap (λ b. cond b (f y) (stop y)) t

  -- if the rule keeps a property that its calls have, every result has it
  module _ (P : (x : X) → R x → Type 0) (stops : (x : X) → P x (stop x)) (keeps : (f : (y : X) → R y) → ((y : X) → P y (f y)) → (x : X) → P x (rule f x)) where
    choice : (b : Bool) (y : X) (r : R y) → P y r → P y (cond b r (stop y))
    choice true y r h = h
    choice false y r h = stops y

    pub turns_keep : (n : ℕ) (x : X) → P x (turns size stop rule n x)
    unfolding below turns
    turns_keep zero x = stops x
    turns_keep (suc n) x = keeps (below size stop rule x (turns size stop rule n)) (λ y. choice (nat_lt (size y) (size x)) y (turns size stop rule n y) (turns_keep n y)) x

    pub recursive_keeps : (x : X) → P x (recursive size stop rule x)
    unfolding recursive
    recursive_keeps x = turns_keep (suc (size x)) x

  below_alike : (x : X) (f g : (y : X) → R y) → ((y : X) → size y < size x → f y ≡ g y) → (y : X) (b : Bool) → nat_lt (size y) (size x) ≡ b → cond b (f y) (stop y) ≡ cond b (g y) (stop y)
  below_alike x f g h y true e = h y (grind (arith, nat_tests))
  below_alike x f g h y false e = refl

  -- enough turns are enough
  turns_alike : (m n : ℕ) (x : X) → size x < m → size x < n → turns size stop rule m x ≡ turns size stop rule n x
  unfolding below turns
  turns_alike zero n x hm hn = absurd (omega arith)
  turns_alike (suc m) zero x hm hn = absurd (omega arith)
  turns_alike (suc m) (suc n) x hm hn =
      let same : (y : X) → below size stop rule x (turns size stop rule m) y ≡ below size stop rule x (turns size stop rule n) y =
      λ y. below_alike x (turns size stop rule m) (turns size stop rule n) (λ z lt. turns_alike m n z (omega arith) (omega arith)) y (nat_lt (size y) (size x)) refl in
      λ i. rule (λ y. same y i) x

  -- one step
  pub recursive_is : (x : X) → recursive size stop rule x ≡ rule (below size stop rule x (recursive size stop rule)) x
  unfolding below turns recursive
  recursive_is x =
      let same : (y : X) → below size stop rule x (turns size stop rule (size x)) y ≡ below size stop rule x (recursive size stop rule) y =
      λ y. below_alike x (turns size stop rule (size x)) (recursive size stop rule) (λ z lt. turns_alike (size x) (suc (size z)) z lt (omega arith)) y (nat_lt (size y) (size x)) refl in
      λ i. rule (λ y. same y i) x

  -- one step, if the rule calls at smaller sizes alone
  pub recursive_step : ((x : X) (f g : (y : X) → R y) → ((y : X) → size y < size x → f y ≡ g y) → rule f x ≡ rule g x) → (x : X)
      → recursive size stop rule x ≡ rule (recursive size stop rule) x
  recursive_step alike x =
      recursive_is x ∙ alike x (below size stop rule x (recursive size stop rule)) (recursive size stop rule) (below_smaller x (recursive size stop rule))

-- Two recursions side by side: if related arguments have the same size, and the rules keep results related, all results are related.
module _ {X Y : Type 0} {R : X → Type 0} {S : Y → Type 0} (size : X → ℕ) (stop : (x : X) → R x) (rule : ((y : X) → R y) → (x : X) → R x)
    (size' : Y → ℕ) (stop' : (y : Y) → S y) (rule' : ((y : Y) → S y) → (x : Y) → S x)
    (Like : X → Y → Type 0) (same : (x : X) (y : Y) → Like x y → size x ≡ size' y) (P : (x : X) (y : Y) → R x → S y → Type 0) (stops : (x : X) (y : Y) → Like x y → P x y (stop x) (stop' y))
    (keeps : (f : (x : X) → R x) (g : (y : Y) → S y) → ((x : X) (y : Y) → Like x y → P x y (f x) (g y)) → (x : X) (y : Y) → Like x y → P x y (rule f x) (rule' g y)) where
  both_choices : (b c : Bool) → b ≡ c → (x : X) (y : Y) → Like x y → (r : R x) (s : S y) → P x y r s → P x y (cond b r (stop x)) (cond c s (stop' y))
  both_choices true true e x y l r s h = h
  both_choices false false e x y l r s h = stops x y l
  both_choices _ _ e x y l r s h = cc

  both_turn : (n : ℕ) (x : X) (y : Y) → Like x y → P x y (turns size stop rule n x) (turns size' stop' rule' n y)
  unfolding below turns
  both_turn zero x y l = stops x y l
  both_turn (suc n) x y l =
      let smaller : (z : X) (w : Y) → Like z w → nat_lt (size z) (size x) ≡ nat_lt (size' w) (size' y) = λ z w k i. nat_lt (same z w k i) (same x y l i) in
      keeps (below size stop rule x (turns size stop rule n)) (below size' stop' rule' y (turns size' stop' rule' n))
      (λ z w k. both_choices (nat_lt (size z) (size x)) (nat_lt (size' w) (size' y)) (smaller z w k) z w k (turns size stop rule n z) (turns size' stop' rule' n w) (both_turn n z w k)) x y l

  pub both_recur : (x : X) (y : Y) → Like x y → P x y (recursive size stop rule x) (recursive size' stop' rule' y)
  unfolding recursive
  both_recur x y l = subst (λ n. P x y (turns size stop rule (suc (size x)) x) (turns size' stop' rule' (suc n) y)) (same x y l) (both_turn (suc (size x)) x y l)
