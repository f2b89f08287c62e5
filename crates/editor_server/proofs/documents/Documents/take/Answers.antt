use Rattle.std.proofs.Common.{None}
use Rattle.std.proofs.lemmas.Map.Text.{btree_map_updates_text}
use Rattle.editor_server.proofs.documents.Documents.take.Goals as goal

pub returns-then-contains_key-clause-taken : goal.returns-then-contains_key-clause-taken
returns-then-contains_key-clause-taken c = record {
  forgets = btree_map_updates_text c.args.uri.now c.args.self.now.list c.remove.new.self None c.remove.ensures.updates;
  lost = λ _. c.args.self.now.has_lost;
}
