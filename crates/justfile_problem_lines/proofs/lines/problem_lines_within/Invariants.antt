use Rattle.std.proofs.Common.{◌≡◌, string_bytes, take}
use Rattle.justfile_problem_lines.specs.Lines.{TellProblemsWithin}
use Rattle.justfile_problem_lines.proofs.lines.problem_lines_within.Given as goal

abbrev pub invariant-loop-problem : goal.invariant-loop-problem
invariant-loop-problem l = (l.cursor.source.now ≡ l.source) × TellProblemsWithin l.owner l.source (take l.problem-index l.problems) (string_bytes l.lines)
