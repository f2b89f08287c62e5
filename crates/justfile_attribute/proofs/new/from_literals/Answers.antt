use Rattle.justfile_attribute_rules.specs.Made.{positional_leaves, quoted_leaves}
use Rattle.justfile_attribute.proofs.Counted.{same_count}
use Rattle.justfile_attribute.proofs.new.from_literals.Goals as goal

pub of_literals-requires-clause-counted : goal.of_literals-requires-clause-counted
of_literals-requires-clause-counted c =
    same_count c.args.name.token c.args.kind (positional_leaves c.args.arguments.items) (quoted_leaves c.in_ok-literals.literals.items) c.in_ok-literals.ensures
    c.requires.counted
