use Rattle.editor_server.specs.Answering.{unparsed}
use Rattle.editor_server.proofs.Unread.{answered, fails_at}
use Rattle.editor_server.proofs.server.Server.react.Goals as goal

pub returns-in-Ok-clause-ok : goal.returns-in-Ok-clause-ok
returns-in-Ok-clause-ok g c =
    answered g.L.Language.knows g.L.Language.finds g.L.Language.mentioned g.L.Language.formats g.L.Language.unformatted g.L.Language.names g.L.Language.linked g.L.Language.completed g.L.Language.fixed g.L.Language.signed g.L.Language.runs c.args.self.now c.react_to_parsed.new.self c.args.body.now c.in-Ok.value
    c.react_to_parsed.result c.in-Ok.ensures c.react_to_parsed.ensures.ok

pub returns-in-Ok-clause-failed : goal.returns-in-Ok-clause-failed
returns-in-Ok-clause-failed g c =
    fails_at g.L.Language.knows g.L.Language.finds g.L.Language.mentioned g.L.Language.formats g.L.Language.unformatted g.L.Language.names g.L.Language.linked g.L.Language.completed g.L.Language.fixed g.L.Language.signed g.L.Language.runs c.args.self.now c.react_to_parsed.new.self c.args.body.now c.in-Ok.value
    c.react_to_parsed.result c.in-Ok.ensures c.react_to_parsed.ensures.failed

pub returns-in-Err-clause-failed : goal.returns-in-Err-clause-failed
returns-in-Err-clause-failed g c = unparsed c.lose_all.ensures
