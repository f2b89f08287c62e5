-- The open documents, and what is known of them.
use Rattle.std.specs.Prelude.{◌≡◌, ℕ, List, cond, Some, IfSome, String, string_bytes}
use Rattle.std.specs.BTreeMap.{BTreeMap, get_by_text}
use Rattle.std.specs.Global.{Global}
use Rattle.std.specs.Str.{bytes_eq}
use Rattle.editor_language.specs.declared.parts.Analysis.{Analysis}
use Rattle.editor_server.specs.declared.documents.Document.{Document}
use Rattle.editor_server.specs.declared.documents.Documents.{Documents}

-- the documents by their addresses
abbrev pub DocumentMap : Type 0
DocumentMap = BTreeMap (String Global) Document

-- what a document has as its analysis is known of its text
abbrev pub IsKnown : (knows : List ℕ → Analysis → Type 0) → Document → Type 0
IsKnown knows d = knows (string_bytes d.text) d.analysis

abbrev pub AreKnown : (knows : List ℕ → Analysis → Type 0) → DocumentMap → Type 0
AreKnown knows documents = (uri : List ℕ) → IfSome (get_by_text documents uri) (IsKnown knows)

-- the document is at its address, and the others are as they were
abbrev pub IsPut : (uri : List ℕ) → Document → (old new : DocumentMap) → Type 0
IsPut uri document old new = (q : List ℕ) → get_by_text new q ≡ cond (bytes_eq uri q) (Some document) (get_by_text old q)

-- The document is at its address, and nothing else changes.
pub record IsStored (uri : List ℕ) (document : Document) (old new : Documents) : Type 0 where
  pub is_put : IsPut uri document old.list new.list
  pub lost : new.has_lost ≡ old.has_lost
