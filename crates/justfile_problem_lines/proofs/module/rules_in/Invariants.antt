use Rattle.std.proofs.Common.{◌≡◌, take}
use Rattle.std.specs.List.{flat_map}
use Rattle.justfile_problem_lines.specs.Modules.{rules_at}
use Rattle.justfile_problem_lines.proofs.module.rules_in.Given as goal

abbrev pub invariant-loop-index : goal.invariant-loop-index
invariant-loop-index l = l.rules.items ≡ flat_map (rules_at l.files) (take l.index-index l.group)
