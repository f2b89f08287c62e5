use Rattle.std.proofs.Common.{◌∙◌}
use Rattle.editor_json.proofs.Replies.{put}
use Rattle.editor_json.specs.Sent.{range_data, text_data}
use Rattle.editor_json.proofs.elements.edit_text.Goals as goal

pub returns-clause-exact : goal.returns-clause-exact
returns-clause-exact c = c.in_ok-text.ensures.ok ∙ put (text_data c.args.new.now) (range_data c.args.range) _ _ c.in_ok-new.ensures c.in_ok-range.ensures.exact
