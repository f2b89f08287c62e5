-- Examples in tables: what a function gives at each of several values.
use Rattle.std.proofs.Common.{◌≡◌, List, map}

-- at the first of each pair it gives the second
abbrev pub Gives : {X Y : Type 0} → (X → Y) → List (X × Y) → Type 0
Gives {X} {Y} f rows = map (λ (r : X × Y). f r.0) rows ≡ map (λ (r : X × Y). r.1) rows

abbrev pub pair : {X Y : Type 0} → X → Y → X × Y
pair x y = (x, y)
