-- What two forests show of the circles of a graph. In the one, steps lead from each node to the root of its tree; in the other, from the root to the node.
use Rattle.std.specs.Prelude.{◌≡◌, ◌<◌, ◌⊎◌, ℕ, Any, List, slice_index_or}
use Rattle.circles.specs.declared.edge.Edge.{Edge}
use Rattle.circles.specs.declared.place.Place.{Place}
use Rattle.circles.specs.declared.place.TheConstants.{NOWHERE}

abbrev pub place_of : List Place → ℕ → Place
place_of places node = slice_index_or places node NOWHERE

-- Both ends of the edge are in trees of this number.
abbrev pub StaysInTree : List Place → Edge → Type 0
StaysInTree places e = (place_of places e.from).tree ≡ (place_of places e.to).tree

-- below the same root, and found earlier
pub record IsNearer (near far : Place) : Type 0 where
  pub same_root : near.root ≡ far.root
  pub rank_less : near.rank < far.rank

-- The node is a root, or an edge that stays in the tree leads from it to a node nearer to the root.
abbrev pub GoesToRoot : List Edge → (to_roots : List Place) → ℕ → Type 0
GoesToRoot edges to_roots node =
    ((place_of to_roots node).root ≡ node)
    ⊎ Any (λ (e : Edge). (e.from ≡ node) × StaysInTree to_roots e × IsNearer (place_of to_roots e.to) (place_of to_roots node)) edges

-- The node is a root, or an edge that stays in the tree leads to it from a node nearer to the root.
abbrev pub ComesFromRoot : List Edge → (to_roots from_roots : List Place) → ℕ → Type 0
ComesFromRoot edges to_roots from_roots node =
    ((place_of from_roots node).root ≡ node)
    ⊎ Any (λ (e : Edge). (e.to ≡ node) × StaysInTree to_roots e × IsNearer (place_of from_roots e.from) (place_of from_roots node)) edges

-- The edge stays in a tree, its end leads to the root, and the root to where it begins.
pub record IsTied (edges : List Edge) (to_roots from_roots : List Place) (e : Edge) : Type 0 where
  pub stays : StaysInTree to_roots e
  pub same_root : (place_of to_roots e.to).root ≡ (place_of from_roots e.from).root
  pub goes : GoesToRoot edges to_roots e.to
  pub comes : ComesFromRoot edges to_roots from_roots e.from

-- The edge leads to a later tree.
abbrev pub LeavesTree : List Place → Edge → Type 0
LeavesTree places e = (place_of places e.from).tree < (place_of places e.to).tree

abbrev pub IsCertified : List Edge → (to_roots from_roots : List Place) → Edge → Type 0
IsCertified edges to_roots from_roots e = LeavesTree to_roots e ⊎ IsTied edges to_roots from_roots e
