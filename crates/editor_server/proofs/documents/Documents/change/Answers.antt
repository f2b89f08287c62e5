use Rattle.std.specs.BTreeMap.{get_by_text}
use Rattle.editor_server.proofs.Kept.{known_at, stored_after, stored_taken}
use Rattle.editor_server.proofs.documents.Documents.change.Goals as goal

pub changed_document-requires : goal.changed_document-requires
changed_document-requires g c = known_at g.L.Language.knows c.args.self.now.list c.args.uri.now c.in-Some.document c.requires c.in-Some.ensures.document

pub returns-in_ok-store-in-Ok-clause-ok : goal.returns-in_ok-store-in-Ok-clause-ok
returns-in_ok-store-in-Ok-clause-ok g c =
    stored_after g.L.Language.knows g.L.Language.finds c.args.encoding c.args.uri.now c.args.self.now c.store.new.self c.in-Ok.changed.document c.in-Ok.changed.found c.args.changes.now
    (get_by_text c.args.self.now.list c.args.uri.now) c.in-Some.document c.in_ok-store-in-Ok.field-0 c.in-Some.ensures.document c.in-Ok.ensures.applied c.in-Ok.ensures.known c.in-Ok.ensures.tells
    (stored_taken c.args.uri.now c.args.self.now c.take.new.self c.store.new.self c.in-Some.ensures.taken c.in-Ok.changed.document c.in_ok-store-in-Ok.ensures.put)
    c.in_ok-store-in-Ok.ensures.same
