-- What all elements of a list have: those of its parts have it, and what they are mapped to.
use Rattle.std.proofs.Common.{List, [], ◌∷◌, ◌++◌}
use Rattle.std.specs.List.{AllByRecursion, flat_map}

module _ {X : Type 0} (P : X → Type 0) where
  abbrev Each : List X → Type 0
  Each xs = AllByRecursion P xs

  pub all_have : ((x : X) → P x) → (xs : List X) → Each xs
  all_have h [] = tt
  all_have h (x ∷ xs) = (h x, all_have h xs)

  pub both : (xs ys : List X) → Each xs → Each ys → Each (xs ++ ys)
  both [] ys h k = k
  both (x ∷ xs) ys h k = (h.0, both xs ys h.1 k)

  pub parts : (xs ys : List X) → Each (xs ++ ys) → Each xs × Each ys
  parts [] ys h = (tt, h)
  parts (x ∷ xs) ys h = let r = parts xs ys h.1 in ((h.0, r.0), r.1)

  pub flat : {Y : Type 0} (f : Y → List X) (ys : List Y) → AllByRecursion (λ y. Each (f y)) ys → Each (flat_map f ys)
  flat f [] h = tt
  flat f (y ∷ ys) h = both (f y) (flat_map f ys) h.0 (flat f ys h.1)

  pub unflat : {Y : Type 0} (f : Y → List X) (ys : List Y) → Each (flat_map f ys) → AllByRecursion (λ y. Each (f y)) ys
  unflat f [] h = tt
  unflat f (y ∷ ys) h = let r = parts (f y) (flat_map f ys) h in (r.0, unflat f ys r.1)

pub each_of : {X : Type 0} (P Q : X → Type 0) → ((x : X) → P x → Q x) → (xs : List X) → AllByRecursion P xs → AllByRecursion Q xs
each_of P Q f [] h = tt
each_of P Q f (x ∷ xs) h = (f x h.0, each_of P Q f xs h.1)
