use Rattle.serde_json.specs.View.{view}
use Rattle.editor_server.specs.Answering.{failed, lost}
use Rattle.editor_server.proofs.Unread.{handled, lost_if, unanswered}
use Rattle.editor_server.proofs.server.Server.react_to_value.Goals as goal

pub returns-in_ok-reaction-in-Ok-clause-ok : goal.returns-in_ok-reaction-in-Ok-clause-ok
returns-in_ok-reaction-in-Ok-clause-ok g c =
    handled g.L.Language.knows g.L.Language.finds g.L.Language.mentioned g.L.Language.formats g.L.Language.unformatted g.L.Language.names g.L.Language.linked g.L.Language.completed g.L.Language.fixed g.L.Language.signed g.L.Language.runs c.args.self.now c.react_to.new.self (view c.args.value.now) c.in-Ok.message
    c.in_ok-reaction-in-Ok.reaction c.make_sent.result c.in-Ok.ensures c.in_ok-reaction-in-Ok.ensures.ok c.make_sent.ensures

pub returns-in_ok-reaction-in-Ok-clause-failed : goal.returns-in_ok-reaction-in-Ok-clause-failed
returns-in_ok-reaction-in-Ok-clause-failed g c =
    unanswered g.L.Language.knows g.L.Language.finds g.L.Language.mentioned g.L.Language.formats g.L.Language.unformatted g.L.Language.names g.L.Language.linked g.L.Language.completed g.L.Language.fixed g.L.Language.signed g.L.Language.runs c.args.self.now c.react_to.new.self (view c.args.value.now)
    c.in-Ok.message c.in_ok-reaction-in-Ok.reaction c.make_sent.result c.in-Ok.ensures c.in_ok-reaction-in-Ok.ensures.ok

pub returns-in_err-reaction-in-Ok-clause-failed : goal.returns-in_err-reaction-in-Ok-clause-failed
returns-in_err-reaction-in-Ok-clause-failed g c =
    lost_if c.from_residual.result _ (failed c.in-Ok.message c.in-Ok.ensures c.in_err-reaction-in-Ok.ensures.failed)

pub returns-in-Err-clause-failed : goal.returns-in-Err-clause-failed
returns-in-Err-clause-failed g c = lost c.lose_all.ensures
