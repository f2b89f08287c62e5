use Rattle.std.proofs.Common.{◌≡◌, take}
use Rattle.justfile_problem_lines.specs.Modules.{edges_in}
use Rattle.justfile_problem_lines.proofs.rings.edges_in.Given as goal

abbrev pub invariant-loop-link : goal.invariant-loop-link
invariant-loop-link l = l.edges.items ≡ edges_in (take l.link-index l.links)
