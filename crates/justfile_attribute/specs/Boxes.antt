-- Values taken out of boxes, and keys before all others.
use Rattle.std.specs.Prelude.{◌≡◌, List, [], ◌∷◌, Option, ⊤}
use Rattle.std.specs.Global.{Box}
use Rattle.std.specs.Option.{option_map}
use Rattle.std.specs.declared.cmp.Ordering.{Ordering}
use Rattle.std.specs.declared.cmp.Ordering.TheVariants.{Less}

-- a pair without the box
abbrev pub unboxed_pair : {A T : Type 0} → A × Box T → A × T
unboxed_pair p = (p.0, p.1.value)

-- an entry without the box
abbrev pub unboxed_entry : {K A T : Type 0} → K × (A × Option (Box T)) → K × (A × Option T)
unboxed_entry e = (e.0, (e.1.0, option_map (λ b. b.value) e.1.1))

-- the key is below the first one
abbrev pub IsBelowFirst : {K V : Type 0} → (K → K → Ordering) → List (K × V) → K → Type 0
IsBelowFirst cmp [] key = ⊤
IsBelowFirst cmp (e ∷ es) key = cmp key e.0 ≡ Less
