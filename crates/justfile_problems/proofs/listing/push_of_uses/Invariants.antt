use Rattle.std.proofs.Common.{◌≡◌, ◌++◌, take}
use Rattle.justfile_problems.specs.Names.{known}
use Rattle.justfile_problems.specs.Overridden.{is_overridden_in}
use Rattle.justfile_problems.specs.Problems.{use_problems}
use Rattle.justfile_problems.proofs.listing.push_of_uses.Given as goal

abbrev pub invariant-loop-used : goal.invariant-loop-used
invariant-loop-used l = l.found.items ≡ l.fn.found.items ++ use_problems l.rules (known l.names) (is_overridden_in l.overridden) (take l.used-index l.uses)
