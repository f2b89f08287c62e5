use Rattle.std.proofs.Common.{◌≡◌, ◌<◌, ◌↔◌, ℕ, IsTrue, false, get_or, vec_len}
use Rattle.circles.specs.declared.edge.Edge.{Edge}
use Rattle.circles.specs.Circles.{IsInCircle}
use Rattle.circles.proofs.plain.in_circles_by_search.Given as goal

abbrev pub invariant-loop-edge : goal.invariant-loop-edge
invariant-loop-edge l = record {
  counted : vec_len l.found ≡ l.edge-index;
  flags : (k : ℕ) (d : Edge) → k < l.edge-index → IsTrue (get_or l.found.items k false) ↔ IsInCircle l.edges (get_or l.edges k d);
}
