use Rattle.std.proofs.Common.{◌-◌, length}
use Rattle.justfile_analysis.specs.Ends.{IsEnd}
use Rattle.justfile_analysis.proofs.cut.part_at.Given as goal

abbrev pub invariant-ends : goal.invariant-ends
invariant-ends l = IsEnd l.text l.start l.end

abbrev pub decreases-ends : goal.decreases-ends
decreases-ends l = length l.text - l.end
