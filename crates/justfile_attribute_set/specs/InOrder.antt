-- Pairs in the order of the content of their first components.
use Rattle.std.specs.Prelude.{List}
use Rattle.std.specs.Coded.{Coded-set, coded_bool}
use Rattle.std.specs.List.Sorted.{IsSorted}
use Rattle.std.specs.declared.cmp.Ordering.{Ordering}

-- no pair comes before one that is less by content
unfoldable pub AreInOrder : {K V : Type 0} → (K → K → Ordering) → List (K × V) → Type 0
AreInOrder cmp pairs = IsSorted (λ p q. cmp p.0 q.0) pairs

pub prop_in_order : {K V : Type 0} (cmp : K → K → Ordering) (pairs : List (K × V)) → IsProp (AreInOrder cmp pairs)
unfolding AreInOrder
prop_in_order cmp pairs = hlevel (Coded-set coded_bool)
