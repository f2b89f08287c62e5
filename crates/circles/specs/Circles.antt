-- Which edges of a directed graph are part of a circle.
use Rattle.std.specs.Prelude.{◌≡◌, ◌<◌, ◌↔◌, ℕ, Bool, false, IsTrue, List, length, slice_index_or}
use Rattle.circles.specs.declared.edge.Edge.{Edge}
use Rattle.circles.specs.Graph.{Leads}

-- steps lead from where the edge ends to where it begins
abbrev pub IsInCircle : List Edge → Edge → Type 0
IsInCircle edges e = Leads edges e.to e.from

-- a flag for each edge, true if the edge is part of a circle, and only then
pub record AreInCircles (edges : List Edge) (found : List Bool) : Type 0 where
  pub one_each : length found ≡ length edges
  pub flags : (k : ℕ) (d : Edge) → k < length edges
      → IsTrue (slice_index_or found k false) ↔ IsInCircle edges (slice_index_or edges k d)
