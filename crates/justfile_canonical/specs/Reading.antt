-- The symbols of a text.
use Rattle.std.specs.Prelude.{◌≡◌, ℕ, List}
use Rattle.std.specs.List.{flat_map}
use Rattle.justfile_ast.specs.declared.ast.Ast.{Ast}
use Rattle.justfile_outline.specs.Shown.{Shown}
use Rattle.justfile_outline.specs.Symbols.{item_symbols}
use Rattle.justfile_canonical.specs.Root.{IsRoot}

-- the symbols of a file, in order
abbrev pub symbols_of : Ast → List Shown
symbols_of ast = flat_map item_symbols ast.items.items

-- The text, as the root file at this path, has a file with these symbols.
pub record HasSymbols (path source : List ℕ) (symbols : List Shown) : Type 0 where
  pub ast : Ast
  pub root : IsRoot path source ast
  pub is : symbols ≡ symbols_of ast
