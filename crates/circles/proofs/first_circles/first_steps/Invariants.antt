use Rattle.std.proofs.Common.{◌≡◌, ℕ}
use Rattle.circles.specs.Walks.{first_flagged, step_from}
use Rattle.circles.proofs.first_circles.first_steps.Given as goal

abbrev pub invariant-loop-index : goal.invariant-loop-index
invariant-loop-index l = (node : ℕ) → step_from l.next node ≡ first_flagged l.edges l.flags l.index node
