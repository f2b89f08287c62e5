use Rattle.std.proofs.Common.{ℕ, List, slice_get, string_bytes, take}
use Rattle.justfile_problem_lines.specs.Modules.{TellAny, TellEach, TellPart, is_overridden_at}
use Rattle.justfile_problem_lines.proofs.module.parts.Given as goal

abbrev pub invariant-loop-index : goal.invariant-loop-index
invariant-loop-index l =
    TellEach (λ (index : ℕ) (part : List ℕ). TellAny (TellPart l.rules (is_overridden_at l.files l.group index) l.all) (slice_get l.files index) part) (take l.index-index l.group) (string_bytes l.lines)
