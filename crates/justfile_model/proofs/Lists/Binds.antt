-- Optional values that are computed one after another, and empty lists.
use Rattle.std.proofs.Common.{◌≡◌, List, [], ◌∷◌, ◌++◌, Option, Some, None, refl, ap, subst, ◌∙◌}
use Rattle.justfile_model.specs.Meanings.Meaning.{◌>>=◌}

pub some_back : {X : Type 0} (x y : X) → Some x ≡ Some y → x ≡ y
some_back x y e = cc

-- what holds for one of two equal values holds for the other
pub of_some_is : {X : Type 0} (P : X → Type 0) (x y : X) → Some x ≡ Some y → P x → P y
of_some_is P x y e h = subst P (some_back x y e) h

pub never_some : {X P : Type 0} (x : X) → None ≡ Some x → P
never_some x e = cc

-- the value of the first option, and the result that it gives
pub record Binding {X Y : Type 0} (o : Option X) (p : X → Option Y) (y : Y) : Type 0 where
  pub first : X
  pub is : o ≡ Some first
  pub gives : p first ≡ Some y

pub bind_back : {X Y : Type 0} (o : Option X) (p : X → Option Y) (y : Y) → (o >>= p) ≡ Some y → Binding o p y
bind_back None p y e = never_some y e
bind_back (Some x) p y e = record { first = x; is = refl; gives = e }

pub bind_is : {X Y : Type 0} (o : Option X) (p : X → Option Y) (x : X) (r : Option Y) → o ≡ Some x → p x ≡ r → (o >>= p) ≡ r
bind_is o p x r e f = ap (λ z. z >>= p) e ∙ f

pub never_nil : {X P : Type 0} (x : X) (xs : List X) → x ∷ xs ≡ [] → P
never_nil x xs e = cc

pub nothing_in : {X : Type 0} (xs ys : List X) → xs ++ ys ≡ [] → (xs ≡ []) × (ys ≡ [])
nothing_in [] ys e = (refl, e)
nothing_in (x ∷ xs) ys e = never_nil x (xs ++ ys) e
