use Rattle.std.proofs.Common.{◌≡◌, filter, map, take}
use Rattle.editor_answers.specs.Fixes.{deed, is_in, to_do}
use Rattle.editor_answers.proofs.fixes.actions_in.Given as goal

abbrev pub invariant-loop-fix : goal.invariant-loop-fix
invariant-loop-fix l = map deed l.actions.items ≡ map (to_do l.asked.shown.encoding l.asked.text.now) (filter (is_in l.span.start l.span.end) (take l.fix-index l.fixes))
