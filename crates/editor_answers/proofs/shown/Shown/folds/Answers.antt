use Rattle.editor_language.specs.declared.parts.Item.{Item}
use Rattle.editor_answers.specs.Ranges.{fold_of}
use Rattle.editor_answers.proofs.Folding.{kept_more}
use Rattle.editor_answers.proofs.shown.Shown.folds.Goals as goal

pub loop-item-preserved : goal.loop-item-preserved
loop-item-preserved c =
    kept_more (λ (i : Item). fold_of c.args.self.now.encoding c.args.self.now.lines.text.now i.span) c.args.items.now c.loop-item.item-index c.item-item.result c.fold.result
    c.loop-item.folds.items c.push_fold.new.folds.items c.loop-item-test.true c.item-item.is c.fold.ensures c.loop-item.invariant c.in_ok-push_fold.ensures
