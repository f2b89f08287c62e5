use Rattle.std.proofs.Common.{◌≡◌, map, take}
use Rattle.editor_answers.specs.Fixes.{put, to_put}
use Rattle.editor_answers.proofs.fixes.edits.Given as goal

abbrev pub invariant-loop-replacement : goal.invariant-loop-replacement
invariant-loop-replacement l = map put l.edits.items ≡ map (to_put l.asked.shown.encoding l.asked.text.now) (take l.replacement-index l.replacements)
