use Rattle.std.proofs.Common.{◌≢◌, ℕ, All, take}
use Rattle.circles.specs.FirstCircles.{start_of}
use Rattle.circles.proofs.walk.circle_in.Given as goal

abbrev pub invariant-loop-index : goal.invariant-loop-index
invariant-loop-index l = All (λ (index : ℕ). start_of l.edges index ≢ l.node) (take l.index l.steps)
