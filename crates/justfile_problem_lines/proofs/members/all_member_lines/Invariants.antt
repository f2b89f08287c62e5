use Rattle.std.proofs.Common.{string_bytes, take}
use Rattle.justfile_problem_lines.specs.Modules.{TellEach, TellMembersAt}
use Rattle.justfile_problem_lines.proofs.members.all_member_lines.Given as goal

abbrev pub invariant-loop-link : goal.invariant-loop-link
invariant-loop-link l = TellEach (TellMembersAt l.files l.links l.group) (take l.link-index l.links) (string_bytes l.lines)
