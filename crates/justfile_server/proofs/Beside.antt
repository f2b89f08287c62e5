-- The names beside a document.
use Rattle.std.proofs.Common.{◌≡◌, ℕ, false, IsTrue, List, [], Option, None, Some, Result, Ok, Err, IfOk, subst, sym}
use Rattle.std.specs.Prelude.{String}
use Rattle.std.specs.Global.{Vec}
use Rattle.std.specs.List.{list_any}
use Rattle.std.specs.declared.alloc.Global.{Global}
use Rattle.editor_language.specs.declared.parts.Item.{Item}
use Rattle.editor_messages.specs.declared.symbol_kind.SymbolKind.TheVariants as symbols
use Rattle.justfile_server.specs.Links.{AreBeside, is_module}
use Rattle.module_paths.specs.Modules.{joined}

module _ (has : List ℕ → List (String Global) → Type 0) where
  -- read, or not needed
  pub of_folder : {E : Type 0} (r : Result (Vec (String Global)) E) (folder : List ℕ) (o : Option (List ℕ)) (items : List Item) → o ≡ Some folder → IfOk r (λ names. has (joined folder []) names.items)
      → IfOk r (λ names. IsTrue (list_any is_module items) → AreBeside has o names.items)
  of_folder (Ok names) folder o items e h = λ any. subst (λ (f : Option (List ℕ)). AreBeside has f names.items) (sym e) h
  of_folder (Err x) folder o items e h = tt

  pub of_none : (o : Option (List ℕ)) (items : List Item) (names : List (String Global)) → o ≡ None → IsTrue (list_any is_module items) → AreBeside has o names
  of_none o items names e any = subst (λ (f : Option (List ℕ)). AreBeside has f names) (sym e) tt

  pub of_others : (o : Option (List ℕ)) (items : List Item) (names : List (String Global)) → list_any is_module items ≡ false → IsTrue (list_any is_module items) → AreBeside has o names
  of_others o items names e any = cc

  -- those beside the document of a module
  pub here : (o : Option (List ℕ)) (folder : List ℕ) (item : Item) (names : List (String Global)) → (IsTrue (is_module item) → AreBeside has o names) → item.is_link ≡ false → item.kind ≡ symbols.Module → o ≡ Some folder
      → has (joined folder []) names
  here o folder item names beside unlinked kind e =
      let is : IsTrue (is_module item) = cc in
      subst (λ (f : Option (List ℕ)). AreBeside has f names) e (beside is)
