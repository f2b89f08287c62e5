use Rattle.std.proofs.Common.{◌∙◌}
use Rattle.editor_json.proofs.Replies.{changed}
use Rattle.editor_json.specs.Sent.{edit_data, list_data}
use Rattle.editor_json.proofs.results.rename_text.Goals as goal

pub returns-clause-exact : goal.returns-clause-exact
returns-clause-exact c = c.in_ok-text.ensures.ok ∙ changed c.args.uri.now (list_data edit_data c.args.edits.now) _ _ c.in_ok-uri.ensures c.in_ok-edits.ensures.exact
