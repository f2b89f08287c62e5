use Rattle.std.proofs.Common.{◌≡◌, ◌++◌, map, take}
use Rattle.justfile_lines.specs.Positions.{IsPlace}
use Rattle.editor_answers.specs.Ranges.{to_find, told}
use Rattle.editor_answers.proofs.shown.Shown.push_found.Given as goal

abbrev pub invariant-loop-finding : goal.invariant-loop-finding
invariant-loop-finding l = record {
  are : map told l.diagnostics.items ≡ map told l.fn.diagnostics.items ++ map (to_find l.self.encoding l.self.lines.text.now) (take l.finding-index l.findings);
  place : IsPlace l.self.encoding l.self.lines.text.now l.known;
}
