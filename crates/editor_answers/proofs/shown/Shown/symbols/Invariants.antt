use Rattle.std.proofs.Common.{◌≡◌, map, take}
use Rattle.editor_answers.specs.Ranges.{shown, to_show}
use Rattle.editor_answers.proofs.shown.Shown.symbols.Given as goal

abbrev pub invariant-loop-item : goal.invariant-loop-item
invariant-loop-item l = map shown l.symbols.items ≡ map (to_show l.self.encoding l.self.lines.text.now) (take l.item-index l.items)
