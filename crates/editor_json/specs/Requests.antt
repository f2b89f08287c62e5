-- What is asked, and what a message is, by data of JSON. Texts are lists of bytes.
use Rattle.std.specs.Prelude.{ℕ, ℤ, List, Bool, true, false, cond, ◌||◌, Option, Some, None, codes, is_some, option_and_then, option_map, unwrap_or}
use Rattle.std.specs.Str.{bytes_eq}
use Rattle.serde_json.specs.Data.{Data, string, Items, no_items, item}
use Rattle.serde_json.specs.Find.{as_array, as_bool, as_i64, as_number, as_str, get}
use Rattle.justfile_lines.specs.declared.encoding.Encoding.{Encoding}
use Rattle.justfile_lines.specs.declared.encoding.Encoding.TheVariants.{Utf8, Utf16}
use Rattle.justfile_lines.specs.declared.position.Position.{Position}
use Rattle.text_edits.specs.declared.edit.Range.{Range}
use Rattle.editor_messages.specs.declared.error_code.ErrorCode.{ErrorCode}
use Rattle.editor_messages.specs.declared.error_code.ErrorCode.TheVariants.{InvalidParams, InvalidRequest, MethodNotFound}
use Rattle.editor_messages.specs.declared.message.Id.{Id}
use Rattle.editor_messages.specs.declared.message.Id.TheVariants.{Number, Text}
use Rattle.editor_messages.specs.declared.message.Message.{Message}
use Rattle.editor_messages.specs.declared.message.Message.TheVariants as messages
use Rattle.editor_messages.specs.declared.message.Query.{Query}
use Rattle.editor_messages.specs.declared.message.Query.TheVariants as queries
use Rattle.editor_messages.specs.declared.message.Request.{Request}
use Rattle.editor_messages.specs.declared.message.Request.TheVariants as requests
use Rattle.editor_messages.specs.declared.method.Method.{Method}
use Rattle.editor_messages.specs.declared.method.Method.TheVariants as methods
use Rattle.editor_messages.specs.Methods.{method_named}
use Rattle.editor_json.specs.Received.{Note, both, note_in, note_of, position_of, range_of, text_in, uri_of, document_in}

-- what is asked about a document
pub data Question : Type 0 where
  plain : Query → Question
  rename : Position → (name : List ℕ) → Question

abbrev pub question_of : Query → Question
question_of (queries.Rename position name) = rename position name.now
question_of other = plain other

abbrev pub position_in : Data → Option Position
position_in d = option_and_then position_of (get (codes "position") d)

abbrev pub at_position : (Position → Query) → Data → Option Question
at_position query d = option_map (λ p. plain (query p)) (position_in d)

abbrev pub range_in : Data → Option Range
range_in d = option_and_then range_of (get (codes "range") d)

abbrev pub rename_in : Data → Option Question
rename_in d = both (λ name position. rename position name) (text_in (codes "newName") d) (position_in d)

-- whether the places of definitions are asked for: they are unless the parameters say otherwise
abbrev pub said_of_definitions : Data → Option Bool
said_of_definitions d = option_and_then (λ c. option_and_then as_bool (get (codes "includeDeclaration") c)) (get (codes "context") d)

abbrev pub with_definitions : Data → Bool
with_definitions d = unwrap_or (said_of_definitions d) true

abbrev pub references_in : Data → Option Question
references_in d = option_map (λ p. plain (queries.References p (with_definitions d))) (position_in d)

abbrev pub question_in : Method → Data → Option Question
question_in methods.DocumentSymbol d = Some (plain queries.Symbols)
question_in methods.FoldingRange d = Some (plain queries.Folds)
question_in methods.Formatting d = Some (plain queries.Format)
question_in methods.RangeFormatting d = option_map (λ r. plain (queries.FormatRange r)) (range_in d)
question_in methods.Definition d = at_position queries.Definition d
question_in methods.References d = references_in d
question_in methods.DocumentHighlight d = at_position queries.Highlights d
question_in methods.PrepareRename d = at_position queries.PrepareRename d
question_in methods.Rename d = rename_in d
question_in methods.Hover d = at_position queries.Hover d
question_in methods.Completion d = at_position queries.Complete d
question_in methods.CodeAction d = option_map (λ r. plain (queries.Fixes r)) (range_in d)
question_in methods.SignatureHelp d = at_position queries.Signature d
question_in methods.CodeLens d = Some (plain queries.Lenses)
question_in methods.SemanticTokens d = Some (plain queries.Tokens)
question_in methods.DocumentLink d = Some (plain queries.Links)
question_in other d = None

-- what is asked
pub data Wish : Type 0 where
  initialize : Encoding → Wish
  shutdown : Wish
  about : (uri : List ℕ) → Question → Wish

abbrev pub wish_of : Request → Wish
wish_of (requests.Initialize encoding) = initialize encoding
wish_of requests.Shutdown = shutdown
wish_of (requests.About uri query) = about uri.now (question_of query)

-- bytes, if they are among the encodings that are offered
abbrev pub is_utf8 : Data → Bool
is_utf8 (string s) = bytes_eq s (codes "utf-8")
is_utf8 other = false

abbrev pub offers_utf8 : Items → Bool
offers_utf8 no_items = false
offers_utf8 (item d ds) = is_utf8 d || offers_utf8 ds

abbrev pub offered : Data → Option Items
offered d = option_and_then (λ c. option_and_then (λ g. option_and_then as_array (get (codes "positionEncodings") g)) (get (codes "general") c)) (get (codes "capabilities") d)

abbrev pub best_of : Option Items → Encoding
best_of None = Utf16
best_of (Some encodings) = cond (offers_utf8 encodings) Utf8 Utf16

abbrev pub about_document : Method → Data → Option Wish
about_document method d = both (λ uri question. about uri question) (option_and_then uri_of (document_in d)) (question_in method d)

abbrev pub wish_in : Method → (parameters : Option Data) → Option Wish
wish_in methods.Initialize parameters = Some (initialize (best_of (option_and_then offered parameters)))
wish_in methods.Shutdown parameters = Some shutdown
wish_in method parameters = option_and_then (about_document method) parameters

-- by what a request is answered
pub data Name : Type 0 where
  numbered : ℤ → Name
  named : List ℕ → Name

abbrev pub name_of : Id → Name
name_of (Number n) = numbered n
name_of (Text text) = named text.now

abbrev pub number_or : Option (List ℕ) → Option ℤ → Option Name
number_or (Some text) n = Some (named text)
number_or None n = option_map numbered n

abbrev pub name_in : Data → Option Name
name_in d = number_or (as_str d) (option_and_then as_i64 (as_number d))

-- what a message says
pub data Said : Type 0 where
  asks : Name → Wish → Said
  tells : Note → Said
  wrong : Option Name → ErrorCode → Said
  ignored : Said

abbrev pub said_by : Message → Said
said_by (messages.Request id request) = asks (name_of id) (wish_of request)
said_by (messages.Notification note) = tells (note_of note)
said_by (messages.Wrong id code) = wrong (option_map name_of id) code
said_by messages.Ignored = ignored

-- a request or a notification, by its method's name
abbrev pub asked : Name → Option Wish → Said
asked name None = wrong (Some name) InvalidParams
asked name (Some wish) = asks name wish

abbrev pub asked_by : Name → Option Method → (parameters : Option Data) → Said
asked_by name None parameters = wrong (Some name) MethodNotFound
asked_by name (Some method) parameters = asked name (wish_in method parameters)

abbrev pub noted : Option Note → Said
noted None = ignored
noted (Some note) = tells note

abbrev pub told_by : Option Method → (parameters : Option Data) → Said
told_by None parameters = ignored
told_by (Some method) parameters = noted (note_in method parameters)

abbrev pub said_with : Option Name → Option Method → (parameters : Option Data) → Said
said_with None method parameters = told_by method parameters
said_with (Some name) method parameters = asked_by name method parameters

-- without a method it is an answer, which is ignored, or wrong
abbrev pub without_method : Data → Option Name → Said
without_method d name = cond (is_some (get (codes "result") d) || is_some (get (codes "error") d)) ignored (wrong name InvalidRequest)

abbrev pub said_named : Data → Option Name → (method : Option (List ℕ)) → Said
said_named d name None = without_method d name
said_named d name (Some method) = said_with name (method_named method) (get (codes "params") d)

-- what a value says: an id has to be a number or a text
abbrev pub said_at : Data → (id : Option Data) → (name : Option Name) → Said
said_at d None name = said_named d None (text_in (codes "method") d)
said_at d (Some id) None = wrong None InvalidRequest
said_at d (Some id) (Some name) = said_named d (Some name) (text_in (codes "method") d)

abbrev pub said_in : Data → Said
said_in d = said_at d (get (codes "id") d) (option_and_then name_in (get (codes "id") d))
