use Rattle.editor_server.proofs.Handled.{done_at_exit, done_by_text, done_silently, not_done}
use Rattle.editor_server.proofs.stream.react.Goals as goal

pub returns-in-Ok-Nothing-clause-handles : goal.returns-in-Ok-Nothing-clause-handles
returns-in-Ok-Nothing-clause-handles g c =
    done_silently g.L.Language.knows g.L.Language.finds g.L.Language.mentioned g.L.Language.formats g.L.Language.unformatted g.L.Language.names g.L.Language.linked g.L.Language.completed g.L.Language.fixed g.L.Language.signed g.L.Language.runs c.args.body.now
    c.args.server.now c.react.new.self (g.W.Write.contents c.args.writer.now) c.in-Ok-Nothing.field-0 c.in-Ok-Nothing.field-0-is c.in-Ok-Nothing.ensures.ok

pub returns-in-Ok-Text-clause-handles : goal.returns-in-Ok-Text-clause-handles
returns-in-Ok-Text-clause-handles g c =
    done_by_text g.L.Language.knows g.L.Language.finds g.L.Language.mentioned g.L.Language.formats g.L.Language.unformatted g.L.Language.names g.L.Language.linked g.L.Language.completed g.L.Language.fixed g.L.Language.signed g.L.Language.runs c.args.body.now
    c.args.server.now c.react.new.self c.send.result c.in-Ok-Text.field-0 c.in-Ok-Text.text c.as_str.result.now (g.W.Write.contents c.args.writer.now)
    (g.W.Write.contents c.send.new.writer) c.in-Ok-Text.field-0-is c.in-Ok-Text.ensures.ok c.as_str.ensures.value c.send.ensures.writes c.send.ensures.goes_on

pub returns-in-Ok-Exit-clause-handles : goal.returns-in-Ok-Exit-clause-handles
returns-in-Ok-Exit-clause-handles g c =
    done_at_exit g.L.Language.knows g.L.Language.finds g.L.Language.mentioned g.L.Language.formats g.L.Language.unformatted g.L.Language.names g.L.Language.linked g.L.Language.completed g.L.Language.fixed g.L.Language.signed g.L.Language.runs c.args.body.now
    c.args.server.now c.react.new.self (g.W.Write.contents c.args.writer.now) c.in-Ok-Exit.field-0 c.in-Ok-Exit.status c.in-Ok-Exit.field-0-is c.in-Ok-Exit.ensures.ok

pub returns-in-Err-clause-handles : goal.returns-in-Err-clause-handles
returns-in-Err-clause-handles g c =
    not_done g.L.Language.knows g.L.Language.finds g.L.Language.mentioned g.L.Language.formats g.L.Language.unformatted g.L.Language.names g.L.Language.linked g.L.Language.completed g.L.Language.fixed g.L.Language.signed g.L.Language.runs c.args.body.now
    c.args.server.now c.react.new.self c.refuse.result (g.W.Write.contents c.args.writer.now) (g.W.Write.contents c.refuse.new.writer)
    c.in-Err.ensures.failed c.refuse.ensures.tells c.refuse.ensures.goes_on
