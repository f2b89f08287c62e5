use Rattle.std.proofs.Common.{ℕ, List, slice_get, string_bytes, take}
use Rattle.justfile_problem_lines.specs.Modules.{TellAny, TellEach, TellMembers, is_overridden_at}
use Rattle.justfile_problem_lines.proofs.members.members_of_files.Given as goal

abbrev pub invariant-loop-index : goal.invariant-loop-index
invariant-loop-index l =
    TellEach (λ (index : ℕ) (part : List ℕ). TellAny (TellMembers l.rules (is_overridden_at l.files l.group index) l.all l.owner) (slice_get l.files index) part) (take l.index-index l.group) (string_bytes l.lines)
