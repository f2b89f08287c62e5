use Rattle.std.proofs.Common.{◌≡◌, ◌++◌, take}
use Rattle.std.specs.List.{flat_map}
use Rattle.justfile_problem_lines.specs.Links.{module_link}
use Rattle.justfile_problem_lines.proofs.links.push_modules.Given as goal

abbrev pub invariant-loop-submodule : goal.invariant-loop-submodule
invariant-loop-submodule l = l.links.items ≡ l.fn.links.items ++ flat_map (module_link l.files l.missing l.from) (take l.submodule-index l.modules)
