use Rattle.std.proofs.Common.{map, take}
use Rattle.justfile_literal_parts.proofs.SharedFronts.{IsShared}
use Rattle.justfile_literal_parts.proofs.unindent.find_indentation.Given as goal

abbrev pub invariant-loop-line : goal.invariant-loop-line
invariant-loop-line l = IsShared l.shared (map (λ line. line.now) (take l.line-index l.lines))
