-- One step of a search: a node is passed.
use Rattle.std.specs.Prelude.{◌≡◌, ◌==◌, ℕ, List, ◌++◌, filter, map, not}
use Rattle.circles.specs.declared.edge.Edge.{Edge}

-- The nodes to which edges lead from the node were added to those reached; the other edges are left.
pub record Passes (pending : List Edge) (node : ℕ) (old new : List ℕ) (rest : List Edge) : Type 0 where
  pub added : new ≡ old ++ map (λ (e : Edge). e.to) (filter (λ (e : Edge). e.from == node) pending)
  pub left : rest ≡ filter (λ (e : Edge). not (e.from == node)) pending
