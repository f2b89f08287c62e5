use Rattle.std.proofs.Common.{◌≡◌, take}
use Rattle.justfile_problem_lines.specs.Modules.{all_definitions}
use Rattle.justfile_problem_lines.proofs.module.all_definitions.Given as goal

abbrev pub invariant-loop-index : goal.invariant-loop-index
invariant-loop-index l = l.all.items ≡ all_definitions l.files (take l.index-index l.group)
