use Rattle.std.proofs.Common.{◌≡◌, drop}
use Rattle.justfile_parse_header.proofs.Stars.{first_star}
use Rattle.justfile_parse_header.proofs.dependency.find_star.Given as goal

abbrev pub invariant-loop-argument : goal.invariant-loop-argument
invariant-loop-argument l = first_star (drop l.argument-index l.arguments) ≡ first_star l.arguments
