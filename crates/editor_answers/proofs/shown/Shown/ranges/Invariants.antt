use Rattle.std.proofs.Common.{◌≡◌, map, take}
use Rattle.justfile_lines.specs.Positions.{IsPlace}
use Rattle.editor_answers.specs.Ranges.{range_of}
use Rattle.editor_answers.proofs.shown.Shown.ranges.Given as goal

abbrev pub invariant-loop-span : goal.invariant-loop-span
invariant-loop-span l = record {
  are : l.ranges.items ≡ map (range_of l.self.encoding l.self.lines.text.now) (take l.span-index l.spans);
  place : IsPlace l.self.encoding l.self.lines.text.now l.known;
}
