use Rattle.std.proofs.Common.{drop}
use Rattle.justfile_analysis.proofs.Told.{AreToldUpTo}
use Rattle.justfile_analysis.proofs.in_text.problems_in_text.Given as goal

abbrev pub invariant-loop-part : goal.invariant-loop-part
invariant-loop-part l = AreToldUpTo l.parts l.start (drop l.part-index l.parts) l.problems.items
