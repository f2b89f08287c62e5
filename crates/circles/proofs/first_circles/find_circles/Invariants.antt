use Rattle.circles.proofs.ListedLemmas.{Listed}
use Rattle.circles.proofs.first_circles.find_circles.Given as goal

abbrev pub invariant-loop-edge : goal.invariant-loop-edge
invariant-loop-edge l = Listed l.edges l.initial.next l.next l.found.items l.edge-index
