-- What is known of the documents after one was stored or forgotten.
use Rattle.std.proofs.Common.{◌≡◌, ◌∙◌, ℕ, Bool, true, false, cond, List, Option, Some, None, Result, Ok, Err, IfOk, OnErr, OnOk, sym, ap, subst, string_bytes}
use Rattle.std.specs.Prelude.{IfSome}
use Rattle.std.specs.BTreeMap.{IsEmpty, get_by_text, is_at}
use Rattle.std.specs.Cmp.Lexicographic.{slice_cmp}
use Rattle.std.specs.Global.{Vec}
use Rattle.std.specs.Map.{lookup}
use Rattle.std.specs.Ordering.{nat_cmp}
use Rattle.std.specs.Str.{bytes_eq}
use Rattle.justfile_lines.specs.declared.encoding.Encoding.{Encoding}
use Rattle.editor_messages.specs.Changes.{AreApplied}
use Rattle.editor_messages.specs.declared.answer.Diagnostic.{Diagnostic}
use Rattle.editor_messages.specs.declared.change.Change.{Change}
use Rattle.editor_language.specs.declared.parts.Analysis.{Analysis}
use Rattle.editor_language.specs.declared.parts.Finding.{Finding}
use Rattle.editor_server.specs.Changed.{AreKnown, DocumentMap, IsKnown, IsPut, IsStored}
use Rattle.editor_server.specs.Model.{Changes, Closes, Forgets, Loses, LosesAll, Stores, TellsAll}
use Rattle.editor_server.specs.declared.documents.Document.{Document}
use Rattle.editor_server.specs.declared.documents.Documents.{Documents}

known_cond : (P : Document → Type 0) (here : Bool) (new old : Option Document) → IfSome new P → IfSome old P → IfSome (cond here new old) P
known_cond P true new old h k = h
known_cond P false new old h k = k

put_over : (here : Bool) (new between old : Option Document) → cond here new (cond here between old) ≡ cond here new old
put_over true new between old = λ _. new
put_over false new between old = λ _. old

-- a document was taken out of the list before
module _ (uri : List ℕ) (old between new : Documents) (taken : Closes uri old between) where
  put_taken : (d : Document) → IsPut uri d between.list new.list → IsPut uri d old.list new.list
  put_taken d h q = h q ∙ ap (cond (bytes_eq uri q) (Some d)) (taken.forgets q) ∙ put_over (bytes_eq uri q) (Some d) None (get_by_text old.list q)

  pub stored_taken : (d : Document) → IsStored uri d between new → IsStored uri d old new
  stored_taken d h = record { is_put = put_taken d h.is_put; lost = h.lost ∙ taken.lost }

module _ (knows : List ℕ → Analysis → Type 0) where
  -- the document that is at an address
  pub known_at : (m : DocumentMap) (uri : List ℕ) (d : Document) → AreKnown knows m → Some d ≡ get_by_text m uri → IsKnown knows d
  known_at m uri d k e = subst (λ o. IfSome o (IsKnown knows)) (sym e) (k uri)

  pub known_empty : (m : DocumentMap) → IsEmpty m → AreKnown knows m
  known_empty m e uri = subst (λ es. IfSome (lookup (is_at (λ k. slice_cmp nat_cmp uri (string_bytes k))) es) (IsKnown knows)) (sym e) tt

  pub known_lost : (new : Documents) → LosesAll new → AreKnown knows new.list
  known_lost new h = known_empty new.list h.none

  module _ (uri : List ℕ) (old new : DocumentMap) (k : AreKnown knows old) where
    known_forgets : Forgets uri old new → AreKnown knows new
    known_forgets h q = subst (λ o. IfSome o (IsKnown knows)) (sym (h q)) (known_cond (IsKnown knows) (bytes_eq uri q) None (get_by_text old q) tt (k q))

    known_put : (d : Document) → IsKnown knows d → IsPut uri d old new → AreKnown knows new
    known_put d known h q = subst (λ o. IfSome o (IsKnown knows)) (sym (h q)) (known_cond (IsKnown knows) (bytes_eq uri q) (Some d) (get_by_text old q) known (k q))

  module _ (uri : List ℕ) (old new : Documents) (k : AreKnown knows old.list) where
    pub known_closes : Closes uri old new → AreKnown knows new.list
    known_closes h = known_forgets uri old.list new.list k h.forgets

    pub known_loses : Loses uri old new → AreKnown knows new.list
    known_loses h = known_forgets uri old.list new.list k h.forgets

    pub known_after : (d : Document) → IsKnown knows d → IsStored uri d old new → AreKnown knows new.list
    known_after d known h = known_put uri old.list new.list k d known h.is_put

    pub known_stored : {A E : Type 0} (d : Document) (r : Result A E) → IsKnown knows d → OnOk r (IsStored uri d old new) → OnErr r (Loses uri old new) → AreKnown knows new.list
    known_stored d (Ok a) known put loses = known_after d known put
    known_stored d (Err e) known put loses = known_loses loses

  module _ (finds : List ℕ → List ℕ → Analysis → List Finding → Type 0) (encoding : Encoding) (uri : List ℕ) (old new : Documents) (d : Document) (fs : Vec Diagnostic) where
    stores : (found : Vec Diagnostic) (text : List ℕ) → string_bytes d.text ≡ text → knows text d.analysis → TellsAll finds encoding uri text d.analysis fs.items
        → IsStored uri d old new → found ≡ fs → Stores knows finds encoding uri text old new found.items
    stores found text is known tells put same = record { document = d; is_text = is; is_known = known; is_stored = put; tells = subst (λ (v : Vec Diagnostic). TellsAll finds encoding uri text d.analysis v.items) (sym same) tells }

    pub stored : {E : Type 0} (r : Result (Vec Diagnostic) E) (text : List ℕ) → string_bytes d.text ≡ text → knows text d.analysis → TellsAll finds encoding uri text d.analysis fs.items
        → OnOk r (IsStored uri d old new) → IfOk r (λ found. found ≡ fs) → IfOk r (λ found. Stores knows finds encoding uri text old new found.items)
    stored (Ok found) text is known tells put same = stores found text is known tells put same
    stored (Err e) text is known tells put same = tt

    pub stored_after : (changes : List Change) (at : Option Document) (before : Document) (found : Vec Diagnostic) → Some before ≡ at → AreApplied encoding (string_bytes before.text) changes (string_bytes d.text) → IsKnown knows d
        → TellsAll finds encoding uri (string_bytes d.text) d.analysis fs.items → IsStored uri d old new → found ≡ fs → Changes knows finds encoding uri changes at old new (Some found)
    stored_after changes at before found e applied known tells put same = subst (λ o. Changes knows finds encoding uri changes o old new (Some found)) e
        (record { text = string_bytes d.text; is_after = applied; stores = stores found (string_bytes d.text) (λ _. string_bytes d.text) known tells put same })
