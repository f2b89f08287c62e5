use Rattle.std.proofs.Common.{◌≡◌, ◌+◌, List, ◌∷◌, ◌∙◌, drop, ap}
use Rattle.justfile_analysis.proofs.Told.{right_next, wrong_next}
use Rattle.justfile_analysis.proofs.in_text.problems_in_text.Goals as goal
use Rattle.justfile_analysis.proofs.in_text.problems_in_text.Goals.{in-Some+in_ok-moved+in_ok-push, in_default}

pub loop-part-preserved : goal.loop-part-preserved
loop-part-preserved c =
    let l = c.loop-part in
    elim c.match-part.branch [
      | in-Some+in_ok-moved+in_ok-push w ↦
          wrong_next c.args.parts.now l.start l.part-index c.saturating_add-start.result c.part-item.result c.loop-part-test.true c.part-item.is c.saturating_add-start.ensures
          l.problems.items c.match-part.problems.items _ _ w.in-Some.is (ap (λ v. v.items) w.problems-is ∙ w.in_ok-push.ensures.items) w.in_ok-moved.ensures l.invariant
      | in_default w ↦
          right_next c.args.parts.now l.start l.part-index c.saturating_add-start.result c.part-item.result c.loop-part-test.true c.part-item.is c.saturating_add-start.ensures
          l.problems.items c.match-part.problems.items w.in_default.is (ap (λ v. v.items) w.problems-is) l.invariant
    ]
