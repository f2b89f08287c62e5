-- Mapped lists and optional values.
use Rattle.std.proofs.Common.{◌≡◌, List, [], ◌∷◌, ◌++◌, map, Option, Some, None, refl, sym, ap, ◌∙◌}
use Rattle.std.specs.List.{flat_map}
use Rattle.std.specs.Option.{option_map}
use Rattle.std.proofs.lemmas.List.{map-append}

-- by what changes no element
pub map_same : {X : Type 0} (f : X → X) → ((x : X) → f x ≡ x) → (xs : List X) → map f xs ≡ xs
map_same f same [] = refl
map_same f same (x ∷ xs) = λ i. same x i ∷ map_same f same xs i

pub option_same : {X : Type 0} (f : X → X) → ((x : X) → f x ≡ x) → (o : Option X) → option_map f o ≡ o
option_same f same None = refl
option_same f same (Some x) = ap Some (same x)

-- twice, where the two ways are one at each element
module _ {X Y Z W : Type 0} (f : Y → W) (g : X → Y) (h : Z → W) (k : X → Z) (same : (x : X) → f (g x) ≡ h (k x)) where
  pub map_both : (xs : List X) → map f (map g xs) ≡ map h (map k xs)
  map_both [] = refl
  map_both (x ∷ xs) = λ i. same x i ∷ map_both xs i

  pub option_both : (o : Option X) → option_map f (option_map g o) ≡ option_map h (option_map k o)
  option_both None = refl
  option_both (Some x) = ap Some (same x)

-- the parts of the elements are mapped with the elements
pub flat_mapped : {X Y A B : Type 0} (f : X → List A) (g : Y → List B) (m : X → Y) (k : A → B) → ((x : X) → g (m x) ≡ map k (f x)) → (xs : List X) → flat_map g (map m xs) ≡ map k (flat_map f xs)
flat_mapped f g m k same [] = refl
flat_mapped f g m k same (x ∷ xs) = (λ i. same x i ++ flat_mapped f g m k same xs i) ∙ sym (map-append k (f x) (flat_map f xs))
