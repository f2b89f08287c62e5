use Rattle.std.proofs.Common.{◌≡◌, take}
use Rattle.justfile_problem_lines.specs.Groups.{first_files}
use Rattle.justfile_problem_lines.proofs.groups.first_files.Given as goal

abbrev pub invariant-loop-link : goal.invariant-loop-link
invariant-loop-link l = l.first.items ≡ first_files (take l.link-index l.links)
