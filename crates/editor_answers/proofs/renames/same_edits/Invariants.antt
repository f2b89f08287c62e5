use Rattle.std.proofs.Common.{take}
use Rattle.editor_answers.specs.Renames.{PutInto}
use Rattle.editor_answers.proofs.renames.same_edits.Given as goal

abbrev pub invariant-loop-range : goal.invariant-loop-range
invariant-loop-range l = PutInto (take l.range-index l.ranges) l.new l.edits.items
