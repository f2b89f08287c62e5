use Rattle.std.proofs.Common.{◌≡◌}
use Rattle.justfile_problem_lines.specs.Groups.{group_after}
use Rattle.justfile_problem_lines.proofs.groups.group_of.Given as goal

abbrev pub invariant-loop-position : goal.invariant-loop-position
invariant-loop-position l = l.group.items ≡ group_after l.links l.position l.first
