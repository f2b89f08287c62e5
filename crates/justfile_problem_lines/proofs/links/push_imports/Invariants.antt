use Rattle.std.proofs.Common.{◌≡◌, ◌++◌, take}
use Rattle.std.specs.List.{flat_map}
use Rattle.justfile_problem_lines.specs.Links.{link_of}
use Rattle.justfile_problem_lines.proofs.links.push_imports.Given as goal

abbrev pub invariant-loop-import : goal.invariant-loop-import
invariant-loop-import l = l.links.items ≡ l.fn.links.items ++ flat_map (link_of l.files l.missing l.from l.path) (take l.import-index l.imports)
