use Rattle.std.proofs.Common.{List, ℕ, subst}
use Rattle.justfile_lines.specs.Positions.{IsOffset}
use Rattle.editor_answers.proofs.asked.Asked.offset.Goals as goal

pub returns : goal.returns
returns c = subst (λ (text : List ℕ). IsOffset c.args.self.now.shown.encoding text c.args.position c.offset.result) c.args.self.now.same_text c.offset.ensures
