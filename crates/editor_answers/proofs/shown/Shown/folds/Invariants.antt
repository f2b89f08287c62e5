use Rattle.std.proofs.Common.{◌≡◌, take}
use Rattle.std.specs.List.{filter_map}
use Rattle.editor_language.specs.declared.parts.Item.{Item}
use Rattle.editor_answers.specs.Ranges.{fold_of}
use Rattle.editor_answers.proofs.shown.Shown.folds.Given as goal

abbrev pub invariant-loop-item : goal.invariant-loop-item
invariant-loop-item l = l.folds.items ≡ filter_map (λ (i : Item). fold_of l.self.encoding l.self.lines.text.now i.span) (take l.item-index l.items)
