-- Parts of a text as an editor is shown them.
use Rattle.std.specs.Prelude.{ℕ, ◌-◌, ◌==◌, ◌++◌, nat_lt, map, take, if◌then◌else◌, List, [], Option, None, Some, length, min, max, option_map, string_bytes}
use Rattle.justfile_lines.specs.Positions.{column_at, line_at}
use Rattle.justfile_lines.specs.declared.encoding.Encoding.{Encoding}
use Rattle.justfile_lines.specs.declared.position.Position.{Position}
use Rattle.text_edits.specs.declared.edit.Range.{Range}
use Rattle.editor_messages.specs.declared.answer.Diagnostic.{Diagnostic}
use Rattle.editor_messages.specs.declared.answer.Fold.{Fold}
use Rattle.editor_messages.specs.declared.answer.Highlight.{Highlight}
use Rattle.editor_messages.specs.declared.answer.Related.{Related}
use Rattle.editor_messages.specs.declared.answer.Symbol.{Symbol}
use Rattle.editor_messages.specs.declared.symbol_kind.SymbolKind.{SymbolKind}
use Rattle.editor_language.specs.declared.mention.Mention.{Mention}
use Rattle.editor_language.specs.declared.parts.Finding.{Finding}
use Rattle.editor_language.specs.declared.parts.Item.{Item}
use Rattle.editor_language.specs.declared.parts.OtherPlace.{OtherPlace}
use Rattle.editor_language.specs.declared.parts.Problem.{Problem}
use Rattle.editor_language.specs.declared.parts.Span.{Span}

-- where an offset is
abbrev pub position_of : Encoding → (text : List ℕ) (offset : ℕ) → Position
position_of encoding text offset = record { line = line_at text offset; column = column_at encoding text offset }

-- where a part of a text begins and ends, none of them after the end of the text
abbrev pub range_of : Encoding → (text : List ℕ) → Span → Range
range_of encoding text span =
    record { start = position_of encoding text (min span.start (length text)); end = position_of encoding text (max (min span.end (length text)) (min span.start (length text))) }

-- the last line of a range: that before its end, if a line begins there
abbrev pub last_line_of : Range → ℕ
last_line_of range = if range.end.column == 0 then range.end.line - 1 else range.end.line

-- where a mention is, and whether it defines its name
abbrev pub highlight_of : Encoding → (text : List ℕ) → Mention → Highlight
highlight_of encoding text m = record { range = range_of encoding text m.span; defines = m.defines }

-- the lines from the first of a range to the last, if there are two or more
abbrev pub fold_in : Range → Option Fold
fold_in range = if nat_lt range.start.line (last_line_of range) then Some (record { first = range.start.line; last = last_line_of range }) else None

-- the lines of a part of a text that can be folded
abbrev pub fold_of : Encoding → (text : List ℕ) → Span → Option Fold
fold_of encoding text span = fold_in (range_of encoding text span)

-- another range, and what is there
abbrev pub Beside : Type 0
Beside = Range × List ℕ

-- a range and a message, the name of a kind, which may be empty, and another range
pub record Told : Type 0 where
  pub range : Range
  pub message : List ℕ
  pub code : List ℕ
  pub related : Option Beside

-- what a diagnostic tells, and what is to be told of a problem and of a finding
abbrev pub beside : Related → Beside
beside r = (r.range, r.message.now)

abbrev pub told : Diagnostic → Told
told d = record { range = d.range; message = string_bytes d.message; code = d.code.now; related = option_map beside d.related }

abbrev pub to_tell : Encoding → (text : List ℕ) → Problem → Told
to_tell encoding text p = record { range = range_of encoding text p.span; message = string_bytes p.message; code = []; related = None }

abbrev pub to_place : Encoding → (text : List ℕ) → OtherPlace → Beside
to_place encoding text o = (range_of encoding text o.span, o.message.now)

abbrev pub to_find : Encoding → (text : List ℕ) → Finding → Told
to_find encoding text f =
    record { range = range_of encoding text f.span; message = string_bytes f.message; code = f.code.now; related = option_map (to_place encoding text) f.other }

-- how many findings are told at most
abbrev pub most_found : ℕ
most_found = 1000

-- what is to be told of problems, and then of the first findings
abbrev pub all_to_tell : Encoding → (text : List ℕ) → List Problem → List Finding → List Told
all_to_tell encoding text problems findings = map (to_tell encoding text) problems ++ map (to_find encoding text) (take most_found findings)

-- a name, a kind, the range of all and that of the name
pub record Sight : Type 0 where
  pub name : List ℕ
  pub kind : SymbolKind
  pub range : Range
  pub selection : Range

-- what a symbol shows, and what is to be shown of an item
abbrev pub shown : Symbol → Sight
shown s = record { name = string_bytes s.name; kind = s.kind; range = s.range; selection = s.selection }

abbrev pub to_show : Encoding → (text : List ℕ) → Item → Sight
to_show encoding text i = record { name = string_bytes i.name; kind = i.kind; range = range_of encoding text i.span; selection = range_of encoding text i.name_span }
