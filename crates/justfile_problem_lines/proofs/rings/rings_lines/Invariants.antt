use Rattle.std.proofs.Common.{◌≡◌, string_bytes, take}
use Rattle.std.specs.List.{flat_map}
use Rattle.justfile_problem_lines.specs.Modules.{ring_lines}
use Rattle.justfile_problem_lines.proofs.rings.rings_lines.Given as goal

abbrev pub invariant-loop-ring : goal.invariant-loop-ring
invariant-loop-ring l = string_bytes l.lines ≡ flat_map (ring_lines l.files l.edges) (take l.ring-index l.rings)
