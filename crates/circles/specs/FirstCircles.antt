-- The circles that one comes to by following from each node its first edge that is part of a circle.
use Rattle.std.specs.Prelude.{◌≡◌, ◌<◌, ℕ, ⊤, All, Any, Contains, List, [], ◌∷◌, length, slice_index_or}
use Rattle.std.specs.List.{flat_map}
use Rattle.circles.specs.declared.circle.Circle.{Circle}
use Rattle.circles.specs.declared.edge.Edge.{Edge}
use Rattle.circles.specs.declared.edge.TheConstants.{NO_EDGE}
use Rattle.circles.specs.Circles.{IsInCircle}

abbrev pub edge_at : List Edge → (index : ℕ) → Edge
edge_at edges index = slice_index_or edges index NO_EDGE

abbrev pub start_of : List Edge → (index : ℕ) → ℕ
start_of edges index = (edge_at edges index).from

abbrev pub end_of : List Edge → (index : ℕ) → ℕ
end_of edges index = (edge_at edges index).to

-- no edge before it from the same node is part of a circle, and this one is
pub record IsFirstStep (edges : List Edge) (index : ℕ) : Type 0 where
  pub inside : index < length edges
  pub circular : IsInCircle edges (edge_at edges index)
  pub no_other : (other : ℕ) → other < index → start_of edges other ≡ start_of edges index → IsInCircle edges (edge_at edges other) → ⊥

-- first steps from the one node to the other
abbrev pub IsPath : List Edge → (from : ℕ) → List ℕ → (to : ℕ) → Type 0
IsPath edges from [] to = from ≡ to
IsPath edges from (index ∷ others) to = IsFirstStep edges index × (start_of edges index ≡ from) × IsPath edges (end_of edges index) others to

-- no first step or more lead from the one node to the other
pub record Follows (edges : List Edge) (from to : ℕ) : Type 0 where
  pub steps : List ℕ
  pub path : IsPath edges from steps to

abbrev pub steps_of : Circle → List ℕ
steps_of c = c.first ∷ c.others.items

-- where a circle begins and ends
abbrev pub node_of : List Edge → Circle → ℕ
node_of edges c = start_of edges c.first

-- first steps from the node back to it
abbrev pub IsCircle : List Edge → Circle → Type 0
IsCircle edges c = IsPath edges (node_of edges c) (steps_of c) (node_of edges c)

-- no number is there twice
abbrev pub AreApart : List ℕ → Type 0
AreApart [] = ⊤
AreApart (x ∷ xs) = (Contains xs x → ⊥) × AreApart xs

-- All circles of first steps, each once: from any edge that is part of a circle first steps lead to one of them.
pub record AreFirstCircles (edges : List Edge) (found : List Circle) : Type 0 where
  pub each : All (IsCircle edges) found
  pub led : (index : ℕ) → index < length edges → IsInCircle edges (edge_at edges index) → Any (λ c. Follows edges (start_of edges index) (node_of edges c)) found
  pub once : AreApart (flat_map steps_of found)
