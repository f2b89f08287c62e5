use Rattle.std.proofs.Common.{◌≡◌, map, string_bytes, take}
use Rattle.std.specs.List.{flat_map}
use Rattle.justfile_problem_lines.specs.Links.{paths_at}
use Rattle.justfile_problem_lines.proofs.links.import_paths.Given as goal

abbrev pub invariant-loop-import : goal.invariant-loop-import
invariant-loop-import l = map string_bytes l.paths.items ≡ flat_map (paths_at l.path) (take l.import-index l.imports)
