use Rattle.std.proofs.Common.{◌≡◌, false, drop}
use Rattle.justfile_parse_header.proofs.Stars.{second_after}
use Rattle.justfile_parse_header.proofs.dependency.find_second.Given as goal

abbrev pub invariant-loop-argument : goal.invariant-loop-argument
invariant-loop-argument l = second_after l.before l.star l.found (drop l.argument-index l.before) ≡ second_after l.before l.star false l.before
