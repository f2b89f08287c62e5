use Rattle.std.proofs.Common.{◌∙◌, List, ap, map, subst, IfOk}
use Rattle.text_edits.specs.declared.edit.Range.{Range}
use Rattle.editor_answers.specs.Ranges.{range_of}
use Rattle.editor_answers.specs.Renames.{PutInto}
use Rattle.editor_answers.proofs.renames.edits_of_name.Goals as goal

pub returns : goal.returns
returns c =
    subst (λ (rs : List Range). IfOk c.same_edits.result (λ edits. PutInto rs c.args.new.now edits.items))
    (c.deref-2.ensures.value
    ∙ c.in_ok-ranges.ensures
    ∙ ap (map (range_of c.args.asked.now.shown.encoding c.args.asked.now.text.now)) (c.deref.ensures.value ∙ c.in_ok-spans.ensures))
    c.same_edits.ensures
