-- The links of items and of one more.
use Rattle.std.proofs.Common.{◌≡◌, ◌∙◌, ℕ, ◌+◌, ◌<◌, Bool, false, List, [], ◌∷◌, ◌++◌, length, take, get_or, Option, None, Some, Result, Ok, Err, IfOk, subst, sym, ap}
use Rattle.std.proofs.lemmas.List.{take_more}
use Rattle.std.specs.Prelude.{string_bytes, String}
use Rattle.std.specs.declared.alloc.Global.{Global}
use Rattle.editor_messages.specs.declared.symbol_kind.SymbolKind.{SymbolKind}
use Rattle.editor_messages.specs.declared.symbol_kind.SymbolKind.TheVariants as symbols
use Rattle.editor_language.specs.declared.parts.FileLink.{FileLink}
use Rattle.editor_language.specs.declared.parts.Item.{Item}
use Rattle.justfile_server.specs.Links.{HasGiven, IsChunk, IsPathBy, IsPathOf, IsPathOfModule, Links, none, unlinked, linked}
use Rattle.module_paths.specs.Modules.{IsModulePath}

-- the path of the file of a module, by its name and the path that it is given
module _ (has : List ℕ → List (String Global) → Type 0) (folder : Option (List ℕ)) (at text : List ℕ) (item : Item) where
  is_of_module : (path : Option (List ℕ)) → item.is_link ≡ false → folder ≡ Some at → item.kind ≡ symbols.Module → IsPathOfModule has at text item path
      → IsPathOf has folder text item path
  is_of_module path no_link in_folder kind h =
      subst (λ (b : Bool). IsPathBy b folder item.kind has text item path) (sym no_link)
      (subst (λ (f : Option (List ℕ)). IsPathBy false f item.kind has text item path) (sym in_folder)
      (subst (λ (k : SymbolKind). IsPathBy false (Some at) k has text item path) (sym kind) h))

  pub of_module : {A E : Type 0} (r : Result A E) (view : A → Option (List ℕ)) (chunk name : List ℕ) (given : Option (List ℕ)) → item.is_link ≡ false → folder ≡ Some at
      → item.kind ≡ symbols.Module → IsChunk text item.span chunk → HasGiven chunk given → name ≡ string_bytes item.name
      → IfOk r (λ a. IsModulePath has at name given (view a)) → IfOk r (λ a. IsPathOf has folder text item (view a))
  of_module (Ok a) view chunk name given no_link in_folder kind is_chunk has_given named h =
      let is_path = subst (λ (n : List ℕ). IsModulePath has at n given (view a)) named h in
      is_of_module (view a) no_link in_folder kind (record { chunk = chunk; is_chunk = is_chunk; given = given; has_given = has_given; is_path = is_path })
  of_module (Err e) view chunk name given no_link in_folder kind is_chunk has_given named h = tt

-- none of no items
pub at_first : (path_of : Item → Option (List ℕ) → Type 0) (links : List FileLink) → links ≡ [] → Links path_of [] links
at_first path_of links e = subst (λ (ls : List FileLink). Links path_of [] ls) (sym e) none

-- one that leads to no file
without : (path_of : Item → Option (List ℕ) → Type 0) {items : List Item} {links : List FileLink} (item : Item) → path_of item None → Links path_of items links
    → Links path_of (items ++ item ∷ []) links
without path_of item h none = unlinked item h none
without path_of item h (unlinked first is others) = unlinked first is (without path_of item h others)
without path_of item h (linked first link place is others) = linked first link place is (without path_of item h others)

-- one that leads to one
with_link : (path_of : Item → Option (List ℕ) → Type 0) {items : List Item} {links : List FileLink} (item : Item) (link : FileLink) → link.span ≡ item.name_span
    → path_of item (Some (string_bytes link.path)) → Links path_of items links → Links path_of (items ++ item ∷ []) (links ++ link ∷ [])
with_link path_of item link p h none = linked item link p h none
with_link path_of item link p h (unlinked first is others) = unlinked first is (with_link path_of item link p h others)
with_link path_of item link p h (linked first other place is others) = linked first other place is (with_link path_of item link p h others)

-- the next item of a list
next_item : (items : List Item) (i : ℕ) (item : Item) → i < length items → item ≡ get_or items i item → take (i + 1) items ≡ take i items ++ item ∷ []
next_item items i item lt is = take_more items i item lt ∙ ap (λ (x : Item). take i items ++ x ∷ []) (sym is)

module _ (path_of : Item → Option (List ℕ) → Type 0) (items : List Item) (i : ℕ) (item : Item) (path : Option (List ℕ)) where
  pub passed : (links : List FileLink) → i < length items → item ≡ get_or items i item → path_of item path → path ≡ None → Links path_of (take i items) links
      → Links path_of (take (i + 1) items) links
  passed links lt is h nowhere before =
      subst (λ (xs : List Item). Links path_of xs links) (sym (next_item items i item lt is)) (without path_of item (subst (path_of item) nowhere h) before)

  pub added : (link : FileLink) (links next : List FileLink) → i < length items → item ≡ get_or items i item → path_of item path → path ≡ Some (string_bytes link.path)
      → link.span ≡ item.name_span → next ≡ links ++ link ∷ [] → Links path_of (take i items) links → Links path_of (take (i + 1) items) next
  added link links next lt is h leads place made before =
      let grown = with_link path_of item link place (subst (path_of item) leads h) before in
      let of_items = subst (λ (xs : List Item). Links path_of xs (links ++ link ∷ [])) (sym (next_item items i item lt is)) grown in
      subst (Links path_of (take (i + 1) items)) (sym made) of_items
