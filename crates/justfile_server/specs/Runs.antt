-- The recipes that can be run as they are.
use Rattle.std.specs.Prelude.{◌≡◌, ◌&&◌, ◌+◌, ℕ, not, List, [], Option, None, Some, codes, cond, map, string_bytes}
use Rattle.std.specs.List.{filter_map, list_any}
use Rattle.justfile_token.specs.Token.{lexeme_of}
use Rattle.justfile_token.specs.declared.token.Token.{Token}
use Rattle.justfile_recipe_header.specs.Parameter.{is_required}
use Rattle.justfile_item.specs.Item.{is_item_enabled}
use Rattle.justfile_item.specs.declared.item.Item.{Item}
use Rattle.justfile_item.specs.declared.item.Item.TheVariants as items
use Rattle.justfile_ast.specs.declared.ast.Ast.{Ast}
use Rattle.justfile_canonical.specs.Root.{IsRoot}
use Rattle.justfile_analysis.specs.Parts.{IsNone}
use Rattle.editor_language.specs.declared.parts.Run.{Run}
use Rattle.editor_language.specs.declared.parts.Span.{Span}

-- the name of an item, if it is a recipe that is enabled on this system and needs no argument
abbrev pub runnable : Item → Option Token
runnable (items.Recipe r) = cond (is_item_enabled (items.Recipe r) && not (list_any is_required r.parameters.items)) (Some r.name.token) None
runnable other = None

-- where the name of what can be run is, and the name
abbrev pub Ran : Type 0
Ran = Span × List ℕ

abbrev pub ran : Run → Ran
ran r = (r.span, string_bytes r.name)

abbrev pub to_run : Token → Ran
to_run name = (record { start = name.offset; end = name.offset + name.length }, lexeme_of name)

-- exactly these can be run among the items, in their order
abbrev pub AreRuns : List Item → List Run → Type 0
AreRuns its runs = map ran runs ≡ map to_run (filter_map runnable its)

-- those of the tree of a text, or none if it has no tree
pub data AreRunsIn (text : List ℕ) (runs : List Run) : Type 0 where
  of_tree : (ast : Ast) → IsRoot (codes "justfile") text ast → AreRuns ast.items.items runs → AreRunsIn text runs
  of_none : IsNone text → runs ≡ [] → AreRunsIn text runs
