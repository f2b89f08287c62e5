use Rattle.std.proofs.Common.{◌≡◌, map, take}
use Rattle.justfile_lines.specs.Positions.{IsPlace}
use Rattle.editor_answers.specs.Ranges.{to_tell, told}
use Rattle.editor_answers.proofs.problems.problems_told.Given as goal

abbrev pub invariant-loop-problem : goal.invariant-loop-problem
invariant-loop-problem l = record {
  are : map told l.found.items ≡ map (to_tell l.encoding l.text) (take l.problem-index l.problems);
  place : IsPlace l.encoding l.text l.known;
}
