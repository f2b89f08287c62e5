use Rattle.std.proofs.Common.{◌≡◌, take}
use Rattle.justfile_problems.specs.Circular.{edges_of}
use Rattle.justfile_problems.proofs.circular.edges_of.Given as goal

abbrev pub invariant-loop-step : goal.invariant-loop-step
invariant-loop-step l = l.edges.items ≡ edges_of (take l.step-index l.steps)
