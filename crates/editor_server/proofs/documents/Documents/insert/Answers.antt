use Rattle.std.proofs.Common.{◌∙◌, cond, Some, ap, string_bytes}
use Rattle.std.specs.BTreeMap.{get_by_text}
use Rattle.std.specs.Str.{bytes_eq}
use Rattle.std.proofs.lemmas.Map.Text.{btree_map_updates_text}
use Rattle.editor_server.proofs.documents.Documents.insert.Goals as goal

pub returns-in-Ok-clause-put : goal.returns-in-Ok-clause-put
returns-in-Ok-clause-put c = record {
  is_put = λ q.
      btree_map_updates_text (string_bytes c.in_ok-uri.uri) c.args.self.now.list c.insert.new.self (Some c.args.document) c.in-Ok.ensures.updates q
      ∙ ap (λ bs. cond (bytes_eq bs q) (Some c.args.document) (get_by_text c.args.self.now.list q)) c.in_ok-uri.ensures.ok;
  lost = λ _. c.args.self.now.has_lost;
}
