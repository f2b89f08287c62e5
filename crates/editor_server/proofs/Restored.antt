-- Changes of documents that aren't held.
use Rattle.std.proofs.Common.{◌≡◌, ◌∙◌, ℕ, Bool, true, false, List, [], Option, Some, None, Result, Ok, Err, IfOk, sym, subst}
use Rattle.std.specs.Global.{Vec}
use Rattle.justfile_lines.specs.declared.encoding.Encoding.{Encoding}
use Rattle.editor_messages.specs.Changes.{AreApplied}
use Rattle.editor_messages.specs.declared.answer.Diagnostic.{Diagnostic}
use Rattle.editor_messages.specs.declared.change.Change.{Change}
use Rattle.editor_language.specs.declared.parts.Analysis.{Analysis}
use Rattle.editor_language.specs.declared.parts.Finding.{Finding}
use Rattle.editor_server.specs.Model.{Changes, Restores, Stores, is_restored}
use Rattle.editor_server.specs.declared.documents.Document.{Document}
use Rattle.editor_server.specs.declared.documents.Documents.{Documents}

module _ (knows : List ℕ → Analysis → Type 0) (finds : List ℕ → List ℕ → Analysis → List Finding → Type 0) (encoding : Encoding) (uri : List ℕ) (changes : List Change) (old new : Documents) where
  pub restored : (is asked : Bool) (text : List ℕ) (found : Vec Diagnostic) → asked ≡ is → asked ≡ true → AreApplied encoding [] changes text → Stores knows finds encoding uri text old new found.items
      → Restores knows finds encoding uri changes is old new (Some found)
  restored is asked text found e t applied stores =
      subst (λ b. Restores knows finds encoding uri changes b old new (Some found)) (sym t ∙ e) (record { text = text; is_after = applied; stores = stores })

  pub unrestored : (is asked : Bool) → asked ≡ is → asked ≡ false → new ≡ old → Restores knows finds encoding uri changes is old new None
  unrestored is asked e f same = subst (λ b. Restores knows finds encoding uri changes b old new None) (sym f ∙ e) same

  unheld_at : (at : Option Document) (found : Option (Vec Diagnostic)) → None ≡ at → Restores knows finds encoding uri changes (is_restored old.has_lost changes) old new found → Changes knows finds encoding uri changes at old new found
  unheld_at at found e h = subst (λ o. Changes knows finds encoding uri changes o old new found) e h

  unheld_in : {E : Type 0} (r : Result (Option (Vec Diagnostic)) E) (at : Option Document) → None ≡ at → IfOk r (Restores knows finds encoding uri changes (is_restored old.has_lost changes) old new) → IfOk r (Changes knows finds encoding uri changes at old new)
  unheld_in (Ok found) at e h = unheld_at at found e h
  unheld_in (Err x) at e h = tt

  -- no document was held, so that none was taken out of the list
  pub unheld : {E : Type 0} (between : Documents) (r : Result (Option (Vec Diagnostic)) E) (at : Option Document) → None ≡ at → between ≡ old
      → IfOk r (Restores knows finds encoding uri changes (is_restored between.has_lost changes) between new) → IfOk r (Changes knows finds encoding uri changes at old new)
  unheld between r at e same h = unheld_in r at e (subst (λ (d : Documents). IfOk r (Restores knows finds encoding uri changes (is_restored d.has_lost changes) d new)) same h)
