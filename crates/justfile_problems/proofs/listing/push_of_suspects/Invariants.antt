use Rattle.std.proofs.Common.{◌≡◌, ◌++◌, take}
use Rattle.justfile_problems.specs.Names.{known}
use Rattle.justfile_problems.specs.Problems.{suspect_problems}
use Rattle.justfile_problems.proofs.listing.push_of_suspects.Given as goal

abbrev pub invariant-loop-suspect : goal.invariant-loop-suspect
invariant-loop-suspect l = l.found.items ≡ l.fn.found.items ++ suspect_problems l.rules (known l.names) (take l.suspect-index l.suspects)
