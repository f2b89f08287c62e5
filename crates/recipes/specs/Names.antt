-- The texts of names that are borrowed.
use Rattle.std.specs.Prelude.{ℕ, List, map}
use Rattle.std.specs.Borrow.{Bor}

abbrev pub texts : List (Bor (List ℕ)) → List (List ℕ)
texts = map (λ name. name.now)
