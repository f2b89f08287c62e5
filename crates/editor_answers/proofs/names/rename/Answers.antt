use Rattle.editor_answers.proofs.Failed.{spoiling}
use Rattle.editor_answers.proofs.names.rename.Goals as goal

pub returns-in-Some-clause-failed : goal.returns-in-Some-clause-failed
returns-in-Some-clause-failed g c =
    spoiling g.L.Language.knows g.L.Language.mentioned c.args.asked.now.shown.encoding c.args.asked.now.text.now c.args.mentions.now c.args.position c.args.new.now c.replaced.result
    c.in-Some.name.now c.in-Some.ensures c.replaced.ensures.failed
