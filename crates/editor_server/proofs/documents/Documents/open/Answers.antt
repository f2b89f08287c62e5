use Rattle.editor_server.proofs.Kept.{stored}
use Rattle.editor_server.proofs.documents.Documents.open.Goals as goal

pub returns-in-Ok-clause-ok : goal.returns-in-Ok-clause-ok
returns-in-Ok-clause-ok g c =
    stored g.L.Language.knows g.L.Language.finds c.args.encoding c.args.uri.now c.args.self.now c.store.new.self c.in-Ok.opened.document c.in-Ok.opened.found c.store.result c.args.text.now
    c.in-Ok.ensures.text c.in-Ok.ensures.known c.in-Ok.ensures.tells c.store.ensures.put c.store.ensures.same
