-- A walk through a graph by a map that has for some nodes an edge from there, and takes out those that it goes over.
use Rattle.std.specs.Prelude.{◌≡◌, ◌==◌, ◌&&◌, ◌⊎◌, ◌≢◌, ℕ, zero, suc, Bool, false, All, Contains, List, [], ◌∷◌, ◌++◌, Option, Some, None, cond, nat_eq, slice_index_or}
use Rattle.std.specs.Option.{option_or}
use Rattle.std.specs.HashMap.{HashMap, get}
use Rattle.std.specs.declared.hash.BuildHasherDefault.{BuildHasherDefault}
use Rattle.std.specs.declared.hash.FoldHasher.{FoldHasher}
use Rattle.circles.specs.declared.circle.Circle.{Circle}
use Rattle.circles.specs.declared.edge.Edge.{Edge}
use Rattle.circles.specs.declared.walk.Walk.{Walk}
use Rattle.circles.specs.FirstCircles.{AreApart, end_of, node_of, start_of, steps_of}

abbrev pub Steps : Type 0
Steps = HashMap ℕ ℕ (BuildHasherDefault FoldHasher)

-- the edge from a node that a map has
abbrev pub step_from : Steps → (node : ℕ) → Option ℕ
step_from steps node = get nat_eq steps node

-- an edge, if it has a flag and is from a node
abbrev pub flagged : List Edge → List Bool → (index : ℕ) → (node : ℕ) → Option ℕ
flagged edges flags index node = cond (slice_index_or flags index false && (start_of edges index == node)) (Some index) None

-- the first of so many edges from a node with a flag
abbrev pub first_flagged : List Edge → List Bool → (count : ℕ) → (node : ℕ) → Option ℕ
first_flagged edges flags zero node = None
first_flagged edges flags (suc count) node =
    option_or (first_flagged edges flags count node) (flagged edges flags count node)

-- these edges lead from the one node to the other, and a map has each
abbrev pub IsWalk : List Edge → Steps → (from : ℕ) → List ℕ → (to : ℕ) → Type 0
IsWalk edges steps from [] to = from ≡ to
IsWalk edges steps from (index ∷ others) to = (step_from steps from ≡ Some index) × IsWalk edges steps (end_of edges index) others to

-- the edges that a map has for nodes are from there
abbrev pub HasOwn : List Edge → Steps → Type 0
HasOwn edges steps = (node index : ℕ) → step_from steps node ≡ Some index → start_of edges index ≡ node

-- The map was followed from a node over these edges, which were taken out.
pub record Walks (edges : List Edge) (from : ℕ) (old new : Steps) (gone : List ℕ) (to : ℕ) : Type 0 where
  pub walk : IsWalk edges old from gone to
  pub left : (step_from new from ≡ None) ⊎ (from ≡ to)
  pub kept : (node index : ℕ) → step_from new node ≡ Some index → step_from old node ≡ Some index
  pub taken : (node index : ℕ) → step_from old node ≡ Some index → step_from new node ≡ None → Contains gone index
  pub out : HasOwn edges old → (node index : ℕ) → step_from old node ≡ Some index → Contains gone index → step_from new node ≡ None
  pub once : HasOwn edges old → AreApart gone

-- the same, to where the map has no edge from
pub record IsWhole (edges : List Edge) (from : ℕ) (old new : Steps) (w : Walk) : Type 0 where
  pub walks : Walks edges from old new w.steps.items w.end
  pub stops : step_from new w.end ≡ None

-- the walk ends with a circle from the node and back to it
pub record EndsIn (edges : List Edge) (gone : List ℕ) (node : ℕ) (c : Circle) : Type 0 where
  pub before : List ℕ
  pub are : gone ≡ before ++ steps_of c
  pub at : node_of edges c ≡ node

-- the circle that a walk to a node ends with, or none if it wasn't at the node before
abbrev pub IsCircleIn : List Edge → List ℕ → (node : ℕ) → Option Circle → Type 0
IsCircleIn edges gone node None = All (λ index. start_of edges index ≢ node) gone
IsCircleIn edges gone node (Some c) = EndsIn edges gone node c
