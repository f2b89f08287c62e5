use Rattle.std.proofs.Common.{◌≡◌, take}
use Rattle.std.specs.List.{flat_map}
use Rattle.justfile_problem_lines.specs.Modules.{use_of}
use Rattle.justfile_problem_lines.proofs.members.uses_of.Given as goal

abbrev pub invariant-loop-member : goal.invariant-loop-member
invariant-loop-member l = l.uses.items ≡ flat_map (use_of l.owner) (take l.member-index l.members)
