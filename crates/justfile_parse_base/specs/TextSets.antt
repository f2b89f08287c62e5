-- Sets of texts.
use Rattle.std.specs.Prelude.{◌≡◌, ℕ, List, map}
use Rattle.std.specs.BTreeSet.{BTreeSet}
use Rattle.std.specs.List.{list_any}
use Rattle.std.specs.Str.{bytes_eq}
use denote.Ref.{Bor}

-- the texts of a set
abbrev pub texts_in : BTreeSet (Bor (List ℕ)) → List (List ℕ)
texts_in set = map (λ (t : Bor (List ℕ)). t.now) set.keys

-- Both lists have the same texts.
abbrev pub HaveSame : (xs ys : List (List ℕ)) → Type 0
HaveSame xs ys = (t : List ℕ) → list_any (bytes_eq t) xs ≡ list_any (bytes_eq t) ys
