use Rattle.std.proofs.Common.{◌≡◌, string_bytes, take}
use Rattle.std.specs.List.{flat_map}
use Rattle.justfile_problem_lines.specs.Modules.{link_lines}
use Rattle.justfile_problem_lines.proofs.files.missing_lines.Given as goal

abbrev pub invariant-loop-link : goal.invariant-loop-link
invariant-loop-link l = string_bytes l.lines ≡ flat_map link_lines (take l.link-index l.links)
