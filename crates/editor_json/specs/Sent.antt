-- What is sent, as data of JSON. The members are in the order of their keys.
use Rattle.std.specs.Prelude.{◌++◌, ℕ, ℤ, true, List, [], ◌∷◌, map, Option, Some, None, codes, string_bytes}
use Rattle.serde_json.specs.Data.{Data, null, boolean, number, string, array, object, unsigned, item, no_items, member, no_members, Members}
use Rattle.serde_json.specs.Find.{of_integer}
use Rattle.serde_json.specs.View.{items_of}
use Rattle.serde_json.specs.Written.{compact_text}
use Rattle.justfile_lines.specs.declared.encoding.Encoding.{Encoding}
use Rattle.justfile_lines.specs.declared.encoding.Encoding.TheVariants.{Utf8, Utf16}
use Rattle.justfile_lines.specs.declared.position.Position.{Position}
use Rattle.text_edits.specs.declared.edit.Range.{Range}
use Rattle.text_edits.specs.declared.edit.TextEdit.{TextEdit}
use Rattle.editor_messages.specs.Numbers.{completion_number, error_number, highlight_number, symbol_number}
use Rattle.editor_messages.specs.declared.answer.Answer.{Answer}
use Rattle.editor_messages.specs.declared.answer.Answer.TheVariants as answers
use Rattle.editor_messages.specs.declared.answer.CodeAction.{CodeAction}
use Rattle.editor_messages.specs.declared.answer.Completion.{Completion}
use Rattle.editor_messages.specs.declared.answer.Completions.{Completions}
use Rattle.editor_messages.specs.declared.answer.Diagnostic.{Diagnostic}
use Rattle.editor_messages.specs.declared.answer.Fold.{Fold}
use Rattle.editor_messages.specs.declared.answer.Highlight.{Highlight}
use Rattle.editor_messages.specs.declared.answer.Hover.{Hover}
use Rattle.editor_messages.specs.declared.answer.LabelPart.{LabelPart}
use Rattle.editor_messages.specs.declared.answer.Lens.{Lens}
use Rattle.editor_messages.specs.declared.answer.Link.{Link}
use Rattle.editor_messages.specs.declared.answer.Related.{Related}
use Rattle.editor_messages.specs.declared.answer.Signature.{Signature}
use Rattle.editor_messages.specs.declared.answer.Symbol.{Symbol}
use Rattle.editor_messages.specs.declared.error_code.ErrorCode.{ErrorCode}
use Rattle.editor_messages.specs.declared.message.Id.{Id}
use Rattle.editor_messages.specs.declared.message.Id.TheVariants.{Number, Text}

abbrev pub text_data : (text : List ℕ) → Data
text_data text = string text

abbrev pub count_data : ℕ → Data
count_data n = number (unsigned n)

abbrev pub list_data : {A : Type 0} → (A → Data) → List A → Data
list_data f xs = array (items_of (map f xs))

abbrev pub id_data : Option Id → Data
id_data None = null
id_data (Some (Number n)) = number (of_integer n)
id_data (Some (Text text)) = string text.now

abbrev pub position_data : Position → Data
position_data p = object (member (codes "character") (count_data p.column) (member (codes "line") (count_data p.line) no_members))

abbrev pub range_data : Range → Data
range_data r = object (member (codes "end") (position_data r.end) (member (codes "start") (position_data r.start) no_members))

abbrev pub place_data : (uri : List ℕ) → Range → Data
place_data uri r = object (member (codes "range") (range_data r) (member (codes "uri") (text_data uri) no_members))

-- a member with a text before others, if the text isn't empty
abbrev pub optional : (key text : List ℕ) → Members → Members
optional key [] others = others
optional key (c ∷ text) others = member key (text_data (c ∷ text)) others

-- its text with the comma after it
abbrev pub optional_text : (key text : List ℕ) → List ℕ
optional_text key [] = []
optional_text key (c ∷ text) = compact_text (text_data key) ++ 58 ∷ (compact_text (text_data (c ∷ text)) ++ 44 ∷ [])

-- another range that a diagnostic is about, in the same document
abbrev pub related_data : (uri : List ℕ) → Related → Data
related_data uri r = object (member (codes "location") (place_data uri r.range) (member (codes "message") (text_data r.message.now) no_members))

-- a member with the list of one before others, if there is one
abbrev pub with_related : (uri : List ℕ) → Option Related → Members → Members
with_related uri None others = others
with_related uri (Some r) others = member (codes "relatedInformation") (array (item (related_data uri r) no_items)) others

-- its text with the comma after it
abbrev pub related_text : (uri : List ℕ) → Option Related → List ℕ
related_text uri None = []
related_text uri (Some r) = codes "\"relatedInformation\":[" ++ (compact_text (related_data uri r) ++ codes "],")

-- the members of each diagnostic
abbrev pub sure_data : Members
sure_data = member (codes "severity") (count_data 1) (member (codes "source") (text_data (codes "just")) no_members)

-- what is wrong in the document with an address, with the version of its text if it is named
abbrev pub diagnostic_data : (uri : List ℕ) → Diagnostic → Data
diagnostic_data uri d = object (optional (codes "code") d.code.now (member (codes "message") (text_data (string_bytes d.message)) (member (codes "range") (range_data d.range) (with_related uri d.related sure_data))))

abbrev pub version_members : Option ℤ → Members
version_members None = no_members
version_members (Some version) = member (codes "version") (number (of_integer version)) no_members

abbrev pub parameters_data : (uri : List ℕ) → (version : Option ℤ) → List Diagnostic → Data
parameters_data uri version found = object (member (codes "diagnostics") (list_data (diagnostic_data uri) found) (member (codes "uri") (text_data uri) (version_members version)))

abbrev pub published_data : (uri : List ℕ) → (version : Option ℤ) → List Diagnostic → Data
published_data uri version found = object (member (codes "jsonrpc") (text_data (codes "2.0")) (member (codes "method") (text_data (codes "textDocument/publishDiagnostics")) (member (codes "params") (parameters_data uri version found) no_members)))

-- that a request is refused, for a reason
abbrev pub reason_data : ErrorCode → (message : List ℕ) → Data
reason_data code message = object (member (codes "code") (number (of_integer (error_number code))) (member (codes "message") (text_data message) no_members))

abbrev pub error_data : Option Id → ErrorCode → (message : List ℕ) → Data
error_data id code message = object (member (codes "error") (reason_data code message) (member (codes "id") (id_data id) (member (codes "jsonrpc") (text_data (codes "2.0")) no_members)))

-- the parts of answers
abbrev pub symbol_data : Symbol → Data
symbol_data s = object (member (codes "kind") (count_data (symbol_number s.kind)) (member (codes "name") (text_data (string_bytes s.name)) (member (codes "range") (range_data s.range) (member (codes "selectionRange") (range_data s.selection) no_members))))

abbrev pub fold_data : Fold → Data
fold_data f = object (member (codes "endLine") (count_data f.last) (member (codes "startLine") (count_data f.first) no_members))

abbrev pub highlight_data : Highlight → Data
highlight_data h = object (member (codes "kind") (count_data (highlight_number h)) (member (codes "range") (range_data h.range) no_members))

-- an edit that puts a text in place of a range
abbrev pub put_data : Range → (new : List ℕ) → Data
put_data range new = object (member (codes "newText") (text_data new) (member (codes "range") (range_data range) no_members))

abbrev pub edit_data : TextEdit → Data
edit_data e = put_data e.range (string_bytes e.text)

abbrev pub link_data : Link → Data
link_data l = object (member (codes "range") (range_data l.range) (member (codes "target") (text_data (string_bytes l.target)) no_members))

-- what can be written in place of a range
abbrev pub completion_data : Range → Completion → Data
completion_data range c = object (optional (codes "detail") (string_bytes c.detail) (optional (codes "documentation") (string_bytes c.documentation) (member (codes "kind") (count_data (completion_number c.kind)) (member (codes "label") (text_data (string_bytes c.label)) (member (codes "textEdit") (put_data range (string_bytes c.label)) no_members)))))

abbrev pub completions_data : Completions → Data
completions_data cs = object (member (codes "isIncomplete") (boolean cs.is_incomplete) (member (codes "items") (list_data (completion_data cs.range) cs.found.items) no_members))

abbrev pub markup_data : (text : List ℕ) → Data
markup_data text = object (member (codes "kind") (text_data (codes "plaintext")) (member (codes "value") (text_data text) no_members))

abbrev pub hover_data : Hover → Data
hover_data h = object (member (codes "contents") (markup_data (string_bytes h.text)) (member (codes "range") (range_data h.range) no_members))

abbrev pub rename_data : (uri : List ℕ) → List TextEdit → Data
rename_data uri edits = object (member (codes "changes") (object (member uri (list_data edit_data edits) no_members)) no_members)

-- a way to set something right in the document with this address
abbrev pub action_data : (uri : List ℕ) → CodeAction → Data
action_data uri a = object (member (codes "edit") (rename_data uri a.edits.items) (member (codes "kind") (text_data (codes "quickfix")) (member (codes "title") (text_data (string_bytes a.title)) no_members)))

-- what is called, and for which of its parameters an argument is written
abbrev pub parameter_data : LabelPart → Data
parameter_data p = object (member (codes "label") (array (item (count_data p.start) (item (count_data p.end) no_items))) no_members)

abbrev pub signature_data : Signature → Data
signature_data s = object (member (codes "label") (text_data (string_bytes s.label)) (member (codes "parameters") (list_data parameter_data s.parameters.items) no_members))

abbrev pub help_data : Signature → Data
help_data s = object (member (codes "activeParameter") (count_data s.active) (member (codes "signatures") (list_data signature_data (s ∷ [])) no_members))

-- a command by which a client runs what has this name
abbrev pub command_data : (name : List ℕ) → Data
command_data name = object (member (codes "arguments") (array (item (text_data name) no_items)) (member (codes "command") (text_data (codes "just.run")) (member (codes "title") (text_data (codes "Run")) no_members)))

abbrev pub lens_data : Lens → Data
lens_data l = object (member (codes "command") (command_data (string_bytes l.name)) (member (codes "range") (range_data l.range) no_members))

abbrev pub tokens_data : List ℕ → Data
tokens_data numbers = object (member (codes "data") (list_data count_data numbers) no_members)

-- what the server can do
abbrev pub encoding_name : Encoding → List ℕ
encoding_name Utf8 = codes "utf-8"
encoding_name Utf16 = codes "utf-16"

abbrev pub nothing_more : Data
nothing_more = object no_members

-- after each of these characters a name or a keyword can follow
abbrev pub triggers : List (List ℕ)
triggers = codes "(" ∷ codes "," ∷ codes ":" ∷ codes "=" ∷ codes "[" ∷ codes "{" ∷ []

-- an argument can begin after each of these
abbrev pub argument_triggers : List (List ℕ)
argument_triggers = codes "(" ∷ codes "," ∷ codes " " ∷ []

abbrev pub signature_ability : Data
signature_ability = object (member (codes "triggerCharacters") (list_data text_data argument_triggers) no_members)

abbrev pub completion_ability : Data
completion_ability = object (member (codes "triggerCharacters") (list_data text_data triggers) no_members)

abbrev pub action_ability : Data
action_ability = object (member (codes "codeActionKinds") (list_data text_data (codes "quickfix" ∷ [])) no_members)

abbrev pub token_types : List (List ℕ)
token_types = codes "comment" ∷ codes "string" ∷ codes "operator" ∷ codes "keyword" ∷ codes "property" ∷ codes "function" ∷ codes "variable" ∷ codes "parameter" ∷ []

abbrev pub legend_data : Data
legend_data = object (member (codes "tokenModifiers") (array no_items) (member (codes "tokenTypes") (list_data text_data token_types) no_members))

abbrev pub tokens_ability : Data
tokens_ability = object (member (codes "full") (boolean true) (member (codes "legend") legend_data no_members))

abbrev pub sync_ability : Data
sync_ability = object (member (codes "change") (count_data 2) (member (codes "openClose") (boolean true) no_members))

abbrev pub rename_ability : Data
rename_ability = object (member (codes "prepareProvider") (boolean true) no_members)

abbrev pub last_abilities : Encoding → Members
last_abilities encoding = member (codes "positionEncoding") (text_data (encoding_name encoding)) (member (codes "referencesProvider") (boolean true) (member (codes "renameProvider") rename_ability (member (codes "semanticTokensProvider") tokens_ability (member (codes "signatureHelpProvider") signature_ability (member (codes "textDocumentSync") sync_ability no_members)))))

abbrev pub middle_abilities : Encoding → Members
middle_abilities encoding = member (codes "documentRangeFormattingProvider") (boolean true) (member (codes "documentSymbolProvider") (boolean true) (member (codes "foldingRangeProvider") (boolean true) (member (codes "hoverProvider") (boolean true) (last_abilities encoding))))

abbrev pub abilities : Encoding → Members
abilities encoding = member (codes "codeActionProvider") action_ability (member (codes "codeLensProvider") nothing_more (member (codes "completionProvider") completion_ability (member (codes "definitionProvider") (boolean true) (member (codes "documentFormattingProvider") (boolean true) (member (codes "documentHighlightProvider") (boolean true) (member (codes "documentLinkProvider") nothing_more (middle_abilities encoding)))))))

abbrev pub server_data : Data
server_data = object (member (codes "name") (text_data (codes "justfile_server")) no_members)

abbrev pub abilities_data : Encoding → Data
abilities_data encoding = object (member (codes "capabilities") (object (abilities encoding)) (member (codes "serverInfo") server_data no_members))

-- the result that an answer is
abbrev pub result_data : Answer → Data
result_data answers.Nothing = null
result_data (answers.Abilities encoding) = abilities_data encoding
result_data (answers.Symbols symbols) = list_data symbol_data symbols.items
result_data (answers.Folds folds) = list_data fold_data folds.items
result_data (answers.Edits edits) = list_data edit_data edits.items
result_data (answers.Places uri ranges) = list_data (place_data (string_bytes uri)) ranges.items
result_data (answers.Place range) = range_data range
result_data (answers.Highlights highlights) = list_data highlight_data highlights.items
result_data (answers.Rename rename) = rename_data (string_bytes rename.uri) rename.edits.items
result_data (answers.Hover hover) = hover_data hover
result_data (answers.Completions completions) = completions_data completions
result_data (answers.Fixes uri actions) = list_data (action_data (string_bytes uri)) actions.items
result_data (answers.Signature signature) = help_data signature
result_data (answers.Lenses lenses) = list_data lens_data lenses.items
result_data (answers.Tokens numbers) = tokens_data numbers.items
result_data (answers.Links links) = list_data link_data links.items

abbrev pub reply_data : Id → Answer → Data
reply_data id answer = object (member (codes "id") (id_data (Some id)) (member (codes "jsonrpc") (text_data (codes "2.0")) (member (codes "result") (result_data answer) no_members)))
