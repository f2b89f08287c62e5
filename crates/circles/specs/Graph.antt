-- The steps of a directed graph, and where they lead.
use Rattle.std.specs.Prelude.{◌≡◌, ℕ, Any, List, [], ◌∷◌}
use Rattle.circles.specs.declared.edge.Edge.{Edge}

-- one of the edges goes from the one node to the other
abbrev pub HasStep : List Edge → (from to : ℕ) → Type 0
HasStep edges from to = Any (λ (e : Edge). (e.from ≡ from) × (e.to ≡ to)) edges

-- steps from the one node over these to the other, which ends the chain
abbrev pub IsChain : List Edge → (from : ℕ) → List ℕ → (to : ℕ) → Type 0
IsChain edges from [] to = from ≡ to
IsChain edges from (next ∷ rest) to = HasStep edges from next × IsChain edges next rest to

-- no step or more lead from the one node to the other
pub record Leads (edges : List Edge) (from to : ℕ) : Type 0 where
  pub nodes : List ℕ
  pub chain : IsChain edges from nodes to
