use Rattle.std.proofs.Common.{string_bytes}
use Rattle.justfile_problem_lines.proofs.lines.all_lines.Goals as goal

pub returns : goal.returns
returns c = record {
  of_problems = string_bytes c.in_ok-lines.lines;
  of_circles = string_bytes c.in_ok-others.others;
  problems_told = c.in_ok-lines.ensures;
  circles_told = c.in_ok-others.ensures;
  are = c.in_ok-append.ensures;
}
