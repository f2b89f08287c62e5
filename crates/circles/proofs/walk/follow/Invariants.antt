use Rattle.std.proofs.Common.{length}
use Rattle.circles.specs.Walks.{Walks}
use Rattle.circles.proofs.walk.follow.Given as goal

abbrev pub invariant-loop-index : goal.invariant-loop-index
invariant-loop-index l = Walks l.edges l.from l.fn.next l.next l.steps.items l.end

abbrev pub decreases-loop-index : goal.decreases-loop-index
decreases-loop-index l = length l.next.entries
