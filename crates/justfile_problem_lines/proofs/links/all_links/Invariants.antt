use Rattle.std.proofs.Common.{◌≡◌, take}
use Rattle.std.specs.List.{flat_map}
use Rattle.justfile_problem_lines.specs.Links.{file_links}
use Rattle.justfile_problem_lines.proofs.links.all_links.Given as goal

abbrev pub invariant-loop-file : goal.invariant-loop-file
invariant-loop-file l = l.links.items ≡ flat_map (file_links l.files l.missing) (take l.file-index l.files)
