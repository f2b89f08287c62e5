use Rattle.std.proofs.Common.{◌≡◌, map, take}
use Rattle.editor_answers.specs.Runs.{seen, to_see}
use Rattle.editor_answers.proofs.lenses.lenses_of.Given as goal

abbrev pub invariant-loop-run : goal.invariant-loop-run
invariant-loop-run l = map seen l.found.items ≡ map (to_see l.asked.shown.encoding l.asked.text.now) (take l.run-index l.runs)
