use Rattle.std.proofs.Common.{take}
use Rattle.circles.specs.Passed.{Passes}
use Rattle.circles.proofs.plain.pass.Given as goal

abbrev pub invariant-loop-edge : goal.invariant-loop-edge
invariant-loop-edge l = Passes (take l.edge-index l.pending) l.node l.initial.reached.items l.reached.items l.rest.items
