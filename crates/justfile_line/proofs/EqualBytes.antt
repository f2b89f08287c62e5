-- A loop that writes several equal bytes, one after another.
use Rattle.std.proofs.Common.{◌≡◌, ℕ, ◌+◌, ◌<◌, zero, suc, List, [], ◌∷◌, ◌++◌, replicate, refl, ap, subst, arith}
use Rattle.std.proofs.lemmas.List.{replicate_more}

replicate_split : (u n i : ℕ) → i < n → (rest : List ℕ) × ((replicate i u ++ u ∷ []) ++ rest ≡ replicate n u)
replicate_split u zero i h = absurd (omega arith)
replicate_split u (suc n) zero h = (replicate n u, refl)
replicate_split u (suc n) (suc i) h = let r = replicate_split u n i (omega arith) in (r.0, ap (λ l. u ∷ l) r.1)

-- for what a sink has written, and for where it failed
module _ {S : Type 0} (took failed : S → List ℕ → S → Type 0)
    (more : (a b c : S) (xs ys : List ℕ) → took a xs b → took b ys c → took a (xs ++ ys) c)
    (later : (a b c : S) (xs ys : List ℕ) → took a xs b → failed b ys c → failed a (xs ++ ys) c)
    (before : (a b : S) (xs ys : List ℕ) → failed a xs b → failed a (xs ++ ys) b)
    (u n i : ℕ) where
  pub took_equal : (a b c : S) → took a (replicate i u) b → took b (u ∷ []) c → took a (replicate (i + 1) u) c
  took_equal a b c p q = subst (λ (t : List ℕ). took a t c) (replicate_more i u) (more a b c _ _ p q)

  pub failed_equal : i < n → (a b c : S) → took a (replicate i u) b → failed b (u ∷ []) c → failed a (replicate n u) c
  failed_equal h a b c p q = let r = replicate_split u n i h in subst (λ (t : List ℕ). failed a t c) r.1 (before a c _ r.0 (later a b c _ _ p q))
