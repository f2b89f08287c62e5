use Rattle.std.proofs.Common.{◌≡◌}
use Rattle.std.specs.Vec.Iter.{into_iter_items}
use Rattle.justfile_model.specs.Readers.NewAttribute as new
use Rattle.justfile_attribute_rules.specs.Keys.{views_keys}
use Rattle.justfile_attribute_rules.specs.Made.{positional_leaves, quoted_leaves}
use Rattle.justfile_attribute_rules.proofs.Loops.{goes_on}
use Rattle.justfile_attribute_rules.proofs.literals.string_literals.Given as goal

-- the result for all arguments, from the literals so far and the arguments that are left
abbrev pub invariant-loop-first : goal.invariant-loop-first
invariant-loop-first l =
    (goal.iterator-loop-first).can_next l.first-iterator
    × (goal.iterator-loop-first).is_finite l.first-iterator
    × (new.make_all (new.placed_literal views_keys l.name.token) (positional_leaves l.fn.arguments.items)
    ≡ goes_on (new.placed_literal views_keys l.name.token) (quoted_leaves l.literals.items) (positional_leaves (into_iter_items l.first-iterator)))
