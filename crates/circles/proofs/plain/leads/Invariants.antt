use Rattle.std.proofs.Common.{◌+◌, ◌-◌, length}
use Rattle.circles.proofs.SearchLemmas.{Searched}
use Rattle.circles.proofs.plain.leads.Given as goal

abbrev pub invariant-nodes : goal.invariant-nodes
invariant-nodes l = Searched l.edges l.fn.from l.pending.items l.reached.items l.passed

abbrev pub decreases-nodes : goal.decreases-nodes
decreases-nodes l = length l.edges + 1 - l.passed
