-- The items of parts, where they are in the text. Offsets have 64 bits.
use Rattle.std.specs.Prelude.{◌≡◌, ◌+◌, ◌-◌, ◌++◌, ◌^◌, ℕ, Bool, List, [], ◌∷◌, Option, map, min, option_map, string_bytes}
use Rattle.text_parts.specs.declared.part.Part.{Part}
use Rattle.editor_messages.specs.declared.symbol_kind.SymbolKind.{SymbolKind}
use Rattle.editor_language.specs.declared.parts.Item.{Item}
use Rattle.editor_language.specs.declared.parts.Known.{Known}
use Rattle.editor_language.specs.declared.parts.Span.{Span}

-- what an item is: its name, for what it is taken, whether it names a file, and where all of it, its name and its body are
pub record ItemView : Type 0 where
  pub name : List ℕ
  pub kind : SymbolKind
  pub is_link : Bool
  pub span : Span
  pub name_span : Span
  pub body : Option Span

abbrev pub item_view : Item → ItemView
item_view i = record { name = string_bytes i.name; kind = i.kind; is_link = i.is_link; span = i.span; name_span = i.name_span; body = i.body }

-- an offset of what was read from an offset on, as it is in the text
abbrev pub moved_offset : (base offset : ℕ) → ℕ
moved_offset base offset = min (base + offset) (2 ^ 64 - 1)

abbrev pub moved_span : (base : ℕ) → Span → Span
moved_span base s = record { start = moved_offset base s.start; end = moved_offset base s.end }

abbrev pub moved_view : (base : ℕ) → ItemView → ItemView
moved_view base v =
    record { name = v.name; kind = v.kind; is_link = v.is_link; span = moved_span base v.span; name_span = moved_span base v.name_span; body = option_map (moved_span base) v.body }

-- the items of a part that begins at an offset: a later part is read with the line feed before it
abbrev pub views_in : (start : ℕ) → Known → List ItemView
views_in start known = map (moved_view (start - 1)) (map item_view known.items.items)

-- the items of parts, of which the first begins at an offset
abbrev pub all_views : (start : ℕ) → List (Part Known) → List ItemView
all_views start [] = []
all_views start (p ∷ parts) = views_in start p.known ++ all_views (moved_offset start p.size) parts

-- these are the items of the parts of a text, where they are in the text
abbrev pub AreItems : List (Part Known) → List Item → Type 0
AreItems parts items = map item_view items ≡ all_views 0 parts

-- This holds of the items of the parts of a text.
pub record OfItems (parts : List (Part Known)) (holds : List Item → Type 0) : Type 0 where
  pub items : List Item
  pub are_items : AreItems parts items
  pub is : holds items
