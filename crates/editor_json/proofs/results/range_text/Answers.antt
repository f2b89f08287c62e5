use Rattle.std.proofs.Common.{◌∙◌}
use Rattle.editor_json.proofs.Replies.{ranged}
use Rattle.editor_json.specs.Sent.{position_data}
use Rattle.editor_json.proofs.results.range_text.Goals as goal

pub returns-clause-exact : goal.returns-clause-exact
returns-clause-exact c =
    c.in_ok-text.ensures.ok
    ∙ ranged (position_data c.args.range.end) (position_data c.args.range.start) _ _ c.in_ok-end.ensures.exact c.in_ok-start.ensures.exact
