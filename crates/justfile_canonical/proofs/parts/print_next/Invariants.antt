use Rattle.std.proofs.Common.{◌≡◌, ◌≤◌}
use Rattle.justfile_canonical.proofs.parts.print_next.Given as goal

abbrev pub invariant-loop-attempt : goal.invariant-loop-attempt
invariant-loop-attempt l = (l.printer ≡ l.initial.printer) × (l.at ≤ l.from) × (1 ≤ l.step)
