use Rattle.std.proofs.Common.{◌≡◌, ◌∷◌, ℕ, map, take, get_or}
use Rattle.justfile_problems.specs.declared.steps.Step.{Step}
use Rattle.justfile_problems.proofs.circular.read.Given as goal

abbrev pub invariant-loop-index : goal.invariant-loop-index
invariant-loop-index l = (d : Step) → l.uses.items ≡ map (λ (index : ℕ). (get_or l.steps index d).used) (l.ring.first ∷ take l.index-index l.ring.others.items)
