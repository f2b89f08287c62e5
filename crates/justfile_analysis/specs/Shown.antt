-- What an editor is shown of items.
use Rattle.std.specs.Prelude.{ℕ, Bool, true, false, List, string_bytes}
use Rattle.justfile_vocabulary.specs.declared.item_kind.ItemKind.{ItemKind}
use Rattle.justfile_vocabulary.specs.declared.item_kind.ItemKind.TheVariants as kinds
use Rattle.justfile_chunks.specs.declared.span.Span as texts
use Rattle.justfile_survey.specs.Seen.{Seen, seen}
use Rattle.justfile_survey.specs.declared.surveys.SurveyedItem.{SurveyedItem}
use Rattle.editor_messages.specs.declared.symbol_kind.SymbolKind.{SymbolKind}
use Rattle.editor_messages.specs.declared.symbol_kind.SymbolKind.TheVariants as symbols
use Rattle.editor_language.specs.declared.parts.Item.{Item}
use Rattle.editor_language.specs.declared.parts.Span.{Span}

-- a name, what an editor takes it for, whether it is a link to a file, and where it is
pub record Shown : Type 0 where
  pub name : List ℕ
  pub kind : SymbolKind
  pub link : Bool
  pub place : Span

-- what an editor takes an item for
abbrev pub kind_of : ItemKind → SymbolKind
kind_of kinds.Recipe = symbols.Function
kind_of kinds.Function = symbols.Function
kind_of kinds.Alias = symbols.Function
kind_of kinds.Module = symbols.Module
kind_of kinds.Import = symbols.Module
kind_of kinds.Setting = symbols.Property
kind_of other = symbols.Variable

-- an import is a link to a file by itself
abbrev pub is_import : ItemKind → Bool
is_import kinds.Import = true
is_import other = false

abbrev pub editor_span : texts.Span → Span
editor_span s = record { start = s.start; end = s.end }

abbrev pub shown : Item → Shown
shown i = record { name = string_bytes i.name; kind = i.kind; link = i.is_link; place = i.name_span }

abbrev pub to_show : Seen → Shown
to_show v = record { name = v.name; kind = kind_of v.kind; link = is_import v.kind; place = editor_span v.place }

abbrev pub surveyed : SurveyedItem → Shown
surveyed s = to_show (seen s)
