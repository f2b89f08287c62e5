use Rattle.std.proofs.Common.{List, ℕ, ◌≡◌, map, subst, IfOk}
use Rattle.editor_answers.specs.Ranges.{range_of}
use Rattle.editor_answers.proofs.asked.Asked.ranges.Goals as goal

pub returns : goal.returns
returns c =
    subst (λ (text : List ℕ). IfOk c.ranges-2.result (λ found. found.items ≡ map (range_of c.args.self.now.shown.encoding text) c.args.spans.now)) c.args.self.now.same_text c.ranges-2.ensures
