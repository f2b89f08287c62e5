-- What is received: what data of JSON say, with texts as lists of bytes.
use Rattle.std.specs.Prelude.{◌≡◌, ℕ, ℤ, List, [], ◌∷◌, map, IsUtf8, Option, Some, None, codes, option_and_then, option_map}
use Rattle.serde_json.specs.Data.{Data, null, Items, no_items, item}
use Rattle.serde_json.specs.Find.{as_array, as_i64, as_number, as_str, as_u64, get}
use Rattle.serde_json.specs.Read.{read}
use Rattle.serde_json.specs.View.{view}
use Rattle.serde_json.specs.declared.value.Value.{Value}
use Rattle.justfile_lines.specs.declared.position.Position.{Position}
use Rattle.text_edits.specs.declared.edit.Range.{Range}
use Rattle.editor_messages.specs.declared.change.Change.{Change}
use Rattle.editor_messages.specs.declared.change.Change.TheVariants as changes
use Rattle.editor_messages.specs.declared.message.Notification.{Notification}
use Rattle.editor_messages.specs.declared.message.Notification.TheVariants as told_of
use Rattle.editor_messages.specs.declared.method.Method.{Method}
use Rattle.editor_messages.specs.declared.method.Method.TheVariants as methods

-- the value is what the bytes write, if they write one
abbrev pub IsParsed : List ℕ → Option Value → Type 0
IsParsed bytes (Some value) = IsUtf8 bytes × (read bytes ≡ Some (view value))
IsParsed bytes None = IsUtf8 bytes → read bytes ≡ None

-- members of objects
abbrev pub text_in : (key : List ℕ) → Data → Option (List ℕ)
text_in key d = option_and_then as_str (get key d)

abbrev pub number_in : (key : List ℕ) → Data → Option ℕ
number_in key d = option_and_then (λ e. option_and_then as_u64 (as_number e)) (get key d)

abbrev pub both : {A B C : Type 0} → (A → B → C) → Option A → Option B → Option C
both f (Some a) (Some b) = Some (f a b)
both f (Some a) None = None
both f None b = None

abbrev pub position_of : Data → Option Position
position_of d = both (λ line column. record { line = line; column = column }) (number_in (codes "line") d) (number_in (codes "character") d)

abbrev pub range_of : Data → Option Range
range_of d = both (λ start end. record { start = start; end = end }) (option_and_then position_of (get (codes "start") d)) (option_and_then position_of (get (codes "end") d))

abbrev pub uri_of : Data → Option (List ℕ)
uri_of d = text_in (codes "uri") d

abbrev pub version_in : Data → Option ℤ
version_in d = option_and_then (λ e. option_and_then as_i64 (as_number e)) (get (codes "version") d)

-- a change, with its text as bytes
pub data Edit : Type 0 where
  whole : (text : List ℕ) → Edit
  part : Range → (text : List ℕ) → Edit

abbrev pub edit_of : Change → Edit
edit_of (changes.Whole text) = whole text.now
edit_of (changes.Part range text) = part range text.now

-- a range that is null is none
abbrev pub edit_at : (text : List ℕ) → (range : Option Data) → Option Edit
edit_at text None = Some (whole text)
edit_at text (Some null) = Some (whole text)
edit_at text (Some range) = option_map (λ r. part r text) (range_of range)

abbrev pub edit_in : Data → Option Edit
edit_in d = option_and_then (λ text. edit_at text (get (codes "range") d)) (text_in (codes "text") d)

-- each of these is a change
abbrev pub edits_in : Items → Option (List Edit)
edits_in no_items = Some []
edits_in (item d ds) = both (λ e es. e ∷ es) (edit_in d) (edits_in ds)

abbrev pub listed_in : Data → Option Items
listed_in d = option_and_then as_array (get (codes "contentChanges") d)

abbrev pub edits_of : (parameters : Option Data) → Option (List Edit)
edits_of parameters = option_and_then edits_in (option_and_then listed_in parameters)

-- what is told, with texts as bytes
pub data Note : Type 0 where
  opened : (uri : List ℕ) (version : Option ℤ) (text : List ℕ) → Note
  changed : (uri : List ℕ) (version : Option ℤ) → List Edit → Note
  closed : (uri : List ℕ) → Note
  unclear : (uri : Option (List ℕ)) → Note
  exit : Note

abbrev pub note_of : Notification → Note
note_of (told_of.Open uri version text) = opened uri.now version text.now
note_of (told_of.Change uri version changes) = changed uri.now version (map edit_of changes.items)
note_of (told_of.Close uri) = closed uri.now
note_of (told_of.Unclear None) = unclear None
note_of (told_of.Unclear (Some uri)) = unclear (Some uri.now)
note_of told_of.Exit = exit

abbrev pub opened_at : (uri : Option (List ℕ)) (version : Option ℤ) (text : Option (List ℕ)) → Note
opened_at None version text = unclear None
opened_at (Some uri) version None = unclear (Some uri)
opened_at (Some uri) version (Some text) = opened uri version text

abbrev pub opened_in : (document : Option Data) → Note
opened_in None = unclear None
opened_in (Some d) = opened_at (uri_of d) (version_in d) (text_in (codes "text") d)

abbrev pub closed_at : (uri : Option (List ℕ)) → Note
closed_at None = unclear None
closed_at (Some uri) = closed uri

abbrev pub closed_in : (document : Option Data) → Note
closed_in None = unclear None
closed_in (Some d) = closed_at (uri_of d)

abbrev pub changed_at : (uri : Option (List ℕ)) (version : Option ℤ) (edits : Option (List Edit)) → Note
changed_at None version edits = unclear None
changed_at (Some uri) version None = unclear (Some uri)
changed_at (Some uri) version (Some edits) = changed uri version edits

abbrev pub changed_in : (document parameters : Option Data) → Note
changed_in None parameters = unclear None
changed_in (Some d) parameters = changed_at (uri_of d) (version_in d) (edits_of parameters)

abbrev pub document_in : Data → Option Data
document_in d = get (codes "textDocument") d

-- what a method tells, if it tells something
abbrev pub note_in : Method → (parameters : Option Data) → Option Note
note_in methods.Exit parameters = Some exit
note_in methods.DidOpen parameters = Some (opened_in (option_and_then document_in parameters))
note_in methods.DidChange parameters = Some (changed_in (option_and_then document_in parameters) parameters)
note_in methods.DidClose parameters = Some (closed_in (option_and_then document_in parameters))
note_in other parameters = None
