use Rattle.std.proofs.Common.{filter, take}
use Rattle.std.specs.List.{AllZip}
use Rattle.justfile_server.specs.Signs.{Corrects, is_sign}
use Rattle.justfile_server.proofs.signs.sign_fixes.Given as goal

abbrev pub invariant-loop-problem : goal.invariant-loop-problem
invariant-loop-problem l = AllZip Corrects (filter (is_sign l.text) (take l.problem-index l.problems)) l.found.items
