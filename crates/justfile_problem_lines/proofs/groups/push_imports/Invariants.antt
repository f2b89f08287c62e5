use Rattle.std.proofs.Common.{◌≡◌, Some, take}
use Rattle.justfile_problem_lines.specs.Groups.{with_imports}
use Rattle.justfile_problem_lines.proofs.groups.push_imports.Given as goal

abbrev pub invariant-loop-link : goal.invariant-loop-link
invariant-loop-link l = l.indices.items ≡ with_imports (take l.link-index l.links) l.initial.indices.items (Some l.from)
