use Rattle.std.proofs.Common.{◌≡◌, take}
use Rattle.justfile_problems.specs.Circular.{all_steps, node_of}
use Rattle.justfile_problems.proofs.steps.steps.Given as goal

abbrev pub invariant-loop-used : goal.invariant-loop-used
invariant-loop-used l = l.found.items ≡ all_steps (node_of l.nodes) (take l.used-index l.uses)
