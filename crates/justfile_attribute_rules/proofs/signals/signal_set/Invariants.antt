use Rattle.std.proofs.Common.{◌≡◌}
use Rattle.std.specs.Vec.Iter.{into_iter_items}
use Rattle.justfile_attribute_rules.specs.Made.{quoted_leaves, signals_made}
use Rattle.justfile_attribute_rules.proofs.Loops.{adds_up}
use Rattle.justfile_attribute_rules.proofs.signals.signal_set.Given as goal

-- the result for all literals, from the signals so far and the literals that are left
abbrev pub invariant-loop-literal : goal.invariant-loop-literal
invariant-loop-literal l =
    (goal.iterator-loop-literal).can_next l.literal-iterator
    × (goal.iterator-loop-literal).is_finite l.literal-iterator
    × (signals_made (quoted_leaves l.fn.literals.items) ≡ adds_up l.signals.keys (quoted_leaves (into_iter_items l.literal-iterator)))
