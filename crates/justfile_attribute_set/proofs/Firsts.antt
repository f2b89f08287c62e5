-- Searches among the first components of pairs.
use Rattle.std.proofs.Common.{◌≡◌, ◌∙◌, List, [], ◌∷◌, Bool, true, false, cond, ◌||◌, ◌&&◌, Option, Some, refl, ap}
use Rattle.std.specs.Cmp.Lexicographic.{pointwise}
use Rattle.std.specs.List.{find, list_any}
use Rattle.std.specs.Option.{option_map}
use Rattle.justfile_attribute_set.specs.Keys.{firsts}

module _ {K V : Type 0} (test : K → Bool) where
  pub any_firsts : (pairs : List (K × V)) → list_any (λ (p : K × V). test p.0) pairs ≡ list_any test (firsts pairs)
  any_firsts [] = refl
  any_firsts (p ∷ ps) = ap (λ b. test p.0 || b) (any_firsts ps)

  found_first : (b : Bool) (p : K × V) (o : Option (K × V)) → option_map (λ (p : K × V). p.0) (cond b (Some p) o) ≡ cond b (Some p.0) (option_map (λ (p : K × V). p.0) o)
  found_first true p o = refl
  found_first false p o = refl

  pub find_firsts : (pairs : List (K × V)) → option_map (λ (p : K × V). p.0) (find (λ (p : K × V). test p.0) pairs) ≡ find test (firsts pairs)
  find_firsts [] = refl
  find_firsts (p ∷ ps) = found_first (test p.0) p (find (λ (q : K × V). test q.0) ps) ∙ ap (λ o. cond (test p.0) (Some p.0) o) (find_firsts ps)

module _ {K V : Type 0} (same : K → K → Bool) where
  pub pointwise_firsts : (ps qs : List (K × V)) → pointwise (λ (p q : K × V). same p.0 q.0) ps qs ≡ pointwise same (firsts ps) (firsts qs)
  pointwise_firsts [] [] = refl
  pointwise_firsts [] (q ∷ qs) = refl
  pointwise_firsts (p ∷ ps) [] = refl
  pointwise_firsts (p ∷ ps) (q ∷ qs) = ap (λ b. same p.0 q.0 && b) (pointwise_firsts ps qs)
