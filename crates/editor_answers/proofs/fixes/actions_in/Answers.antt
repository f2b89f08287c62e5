use Rattle.std.proofs.Common.{◌∙◌, List, ℕ, [], ◌∷◌, ◌++◌, ap, map, sym}
use Rattle.std.proofs.lemmas.List.{map_push}
use Rattle.editor_language.proofs.Likes.{kept, left_out}
use Rattle.editor_answers.specs.Fixes.{Deed, deed, is_in, to_do}
use Rattle.editor_answers.proofs.fixes.actions_in.Goals.{then-is_in+in_ok-action+in_ok-push, else-is_in}
use Rattle.editor_answers.proofs.fixes.actions_in.Goals as goal

pub loop-fix-preserved : goal.loop-fix-preserved
loop-fix-preserved c =
    let done = to_do c.args.asked.now.shown.encoding c.args.asked.now.text.now in
    let inside = is_in c.args.span.start c.args.span.end in
    let old = c.loop-fix.actions.items in
    elim c.if-is_in.branch [
      | then-is_in+in_ok-action+in_ok-push w ↦
          rw w.actions-is
          (kept done inside c.args.fixes.now c.loop-fix.fix-index c.fix-item.result (map deed old) (map deed w.push.new.self.items) c.loop-fix-test.true c.fix-item.is
          (sym c.is_in.ensures ∙ w.if-is_in.true) c.loop-fix.invariant
          (ap (map deed) w.in_ok-push.ensures.items ∙ map_push deed old w.in_ok-action.field-0 ∙ ap (λ (d : Deed). map deed old ++ d ∷ []) w.in_ok-action.ensures))
      | else-is_in w ↦
          rw w.actions-is
          (left_out done inside c.args.fixes.now c.loop-fix.fix-index c.fix-item.result (map deed old) c.loop-fix-test.true c.fix-item.is (sym c.is_in.ensures ∙ w.if-is_in.false)
          c.loop-fix.invariant)
    ]
