-- The files that the imports and the modules of a justfile lead to.
use Rattle.std.specs.Prelude.{◌≡◌, ◌≤◌, ◌-◌, ◌&&◌, ℕ, Bool, false, true, not, List, [], ◌∷◌, Option, None, Some, codes, option_map, string_bytes, String}
use Rattle.std.specs.List.{slice_range}
use Rattle.std.specs.Option.{option_or}
use Rattle.std.specs.Str.{IsCharBoundary}
use Rattle.std.specs.declared.alloc.Global.{Global}
use Rattle.justfile_token.specs.declared.fault.Fault.{Fault}
use Rattle.justfile_token.specs.declared.string_literal.StringLiteral.{StringLiteral}
use Rattle.justfile_item.specs.declared.item.Item.{Item as TreeItem}
use Rattle.justfile_item.specs.declared.item.Item.TheVariants as trees
use Rattle.justfile_ast.specs.declared.ast.Ast.{Ast}
use Rattle.justfile_canonical.specs.Root.{HasNoRoot, IsRoot}
use Rattle.editor_messages.specs.declared.symbol_kind.SymbolKind.{SymbolKind}
use Rattle.editor_messages.specs.declared.symbol_kind.SymbolKind.TheVariants as symbols
use Rattle.editor_language.specs.declared.parts.FileLink.{FileLink}
use Rattle.editor_language.specs.declared.parts.Item.{Item}
use Rattle.editor_language.specs.declared.parts.Span.{Span}
use Rattle.module_paths.specs.Modules.{IsModulePath, joined}

-- the path that a module is given
abbrev pub given : TreeItem → Option (List ℕ)
given (trees.Module attributes doc name optional relative) = option_map (λ (l : StringLiteral). string_bytes l.cooked) relative
given other = None

-- the one that the first module with a path is given
abbrev pub given_in : List TreeItem → Option (List ℕ)
given_in [] = None
given_in (item ∷ items) = option_or (given item) (given_in items)

-- the path that the module in a text is given, by the text's tree
pub data HasGiven (text : List ℕ) (path : Option (List ℕ)) : Type 0 where
  parsed : (ast : Ast) → IsRoot (codes "justfile") text ast → path ≡ given_in ast.items.items → HasGiven text path
  rejected : (fault : Fault) → HasNoRoot (codes "justfile") text fault → path ≡ None → HasGiven text path

-- the text from one offset up to another one is a part of the text
abbrev pub HasPart : (text : List ℕ) (start end : ℕ) → Type 0
HasPart text start end = (start ≤ end) × IsCharBoundary text start × IsCharBoundary text end

-- the text from one offset up to another one, and nothing if that is no part of the text
pub data IsPart (text : List ℕ) (start end : ℕ) (part : List ℕ) : Type 0 where
  cut : part ≡ slice_range text start end → IsPart text start end part
  outside : (HasPart text start end → ⊥) → part ≡ [] → IsPart text start end part

-- the text of an item: with the line feed before it
abbrev pub IsChunk : (text : List ℕ) → Span → (chunk : List ℕ) → Type 0
IsChunk text span chunk = IsPart text (span.start - 1) span.end chunk

-- an item is a module: an import is of the same kind, and leads to the file that it names
abbrev pub is_module_kind : SymbolKind → Bool
is_module_kind symbols.Module = true
is_module_kind other = false

abbrev pub is_module : Item → Bool
is_module item = not item.is_link && is_module_kind item.kind

-- these names are in the folder of a document, if it is in one
abbrev pub AreBeside : (has : List ℕ → List (String Global) → Type 0) → (folder : Option (List ℕ)) → (names : List (String Global)) → Type 0
AreBeside has None names = Unit {0}
AreBeside has (Some folder) names = has (joined folder []) names

-- the path of the file that a module leads to
pub record IsPathOfModule (has : List ℕ → List (String Global) → Type 0) (folder text : List ℕ) (item : Item) (path : Option (List ℕ)) : Type 0 where
  pub chunk : List ℕ
  pub is_chunk : IsChunk text item.span chunk
  pub given : Option (List ℕ)
  pub has_given : HasGiven chunk given
  pub is_path : IsModulePath has folder (string_bytes item.name) given path

-- the path of the file that an item leads to: that of an import, or that of a module if the document is in a folder; other items lead to none
abbrev pub IsPathBy : (is_link : Bool) (folder : Option (List ℕ)) → SymbolKind → (has : List ℕ → List (String Global) → Type 0) (text : List ℕ) → Item → (path : Option (List ℕ))
    → Type 0
IsPathBy true folder kind has text item path = path ≡ Some (string_bytes item.name)
IsPathBy false (Some folder) symbols.Module has text item path = IsPathOfModule has folder text item path
IsPathBy false folder kind has text item path = path ≡ None

abbrev pub IsPathOf : (has : List ℕ → List (String Global) → Type 0) (folder : Option (List ℕ)) (text : List ℕ) → Item → (path : Option (List ℕ)) → Type 0
IsPathOf has folder text item path = IsPathBy item.is_link folder item.kind has text item path

-- the links of items, in their order: one at the name of each item that leads to a file
pub data Links (path_of : Item → Option (List ℕ) → Type 0) : List Item → List FileLink → Type 0 where
  none : Links path_of [] []
  unlinked : (item : Item) {items : List Item} {links : List FileLink} → path_of item None → Links path_of items links → Links path_of (item ∷ items) links
  linked : (item : Item) (link : FileLink) {items : List Item} {links : List FileLink} → link.span ≡ item.name_span → path_of item (Some (string_bytes link.path))
      → Links path_of items links → Links path_of (item ∷ items) (link ∷ links)
