use Rattle.editor_server.proofs.Unread.{unread}
use Rattle.editor_server.proofs.server.Server.refuse_unread.Goals as goal

pub returns-clause-ok : goal.returns-clause-ok
returns-clause-ok c = unread c.args.self.now c.lose_all.new.self c.refused.result c.make_sent.result c.lose_all.ensures c.refused.ensures c.make_sent.ensures
