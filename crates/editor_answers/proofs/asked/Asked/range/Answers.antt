use Rattle.std.proofs.Common.{List, ℕ, ◌≡◌, subst}
use Rattle.editor_answers.specs.Ranges.{range_of}
use Rattle.editor_answers.proofs.asked.Asked.range.Goals as goal

pub returns : goal.returns
returns c = subst (λ (text : List ℕ). c.range.result ≡ range_of c.args.self.now.shown.encoding text c.args.span) c.args.self.now.same_text c.range.ensures
