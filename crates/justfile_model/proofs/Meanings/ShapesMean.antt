-- The printed attributes of a tree mean the shape of the attributes, and break no rule.
use Rattle.std.proofs.Common.{◌≡◌, List, [], ◌∷◌, map, refl}
use Rattle.justfile_model.proofs.Lists.Binds.{never_nil}

pub none_of_none : {X Y : Type 0} (f : X → Y) (xs : List X) → map f xs ≡ [] → xs ≡ []
none_of_none f [] e = refl
none_of_none f (x ∷ xs) e = never_nil (f x) (map f xs) e
