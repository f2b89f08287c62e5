use Rattle.editor_answers.proofs.Offered.{offers_among}
use Rattle.editor_answers.proofs.answers.complete.Goals as goal

pub returns-clause-ok : goal.returns-clause-ok
returns-clause-ok g c =
    offers_among g.L.Language.mentioned g.L.Language.completed c.args.asked.now.shown.encoding c.args.asked.now.text.now c.args.asked.now.analysis.now c.args.position c.in_ok-mentions.mentions.items
    c.deref.result.now c.offset-offset.result c.in_ok-choices.choices c.completions-2.result c.in_ok-mentions.ensures c.deref.ensures.value c.offset-offset.ensures c.in_ok-choices.ensures
    c.completions-2.ensures
