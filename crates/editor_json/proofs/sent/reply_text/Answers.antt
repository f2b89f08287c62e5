use Rattle.std.proofs.Common.{◌∙◌, Some}
use Rattle.editor_json.proofs.Replies.{replied}
use Rattle.editor_json.proofs.SentBack.{reply_reads}
use Rattle.editor_json.specs.Sent.{id_data, result_data}
use Rattle.editor_json.proofs.sent.reply_text.Goals as goal

pub returns-clause-exact : goal.returns-clause-exact
returns-clause-exact c = c.in_ok-text.ensures.ok ∙ replied (id_data (Some c.args.id)) (result_data c.args.answer.now) _ _ c.in_ok-id.ensures.exact c.in_ok-result.ensures.exact

pub returns-clause-reads_back : goal.returns-clause-reads_back
returns-clause-reads_back c =
    reply_reads c.args.id c.args.answer.now _
    (c.in_ok-text.ensures.ok ∙ replied (id_data (Some c.args.id)) (result_data c.args.answer.now) _ _ c.in_ok-id.ensures.exact c.in_ok-result.ensures.exact) c.in_ok-id.ensures.integers c.in_ok-result.ensures.integers
