-- What is sent nests little, with keys in order.
use Rattle.std.proofs.Common.{◌≡◌, ◌∙◌, ℕ, ℤ, true, List, [], ◌∷◌, map, Option, Some, None, codes, string_bytes, refl, ap}
use Rattle.serde_json.specs.Data.{Data, member, object}
use Rattle.serde_json.specs.Read.{read}
use Rattle.serde_json.specs.View.{items_of}
use Rattle.serde_json.specs.Written.{compact_text}
use Rattle.text_edits.specs.declared.edit.Range.{Range}
use Rattle.editor_messages.specs.declared.answer.Answer.{Answer}
use Rattle.editor_messages.specs.declared.answer.Answer.TheVariants as answers
use Rattle.editor_messages.specs.declared.answer.CodeAction.{CodeAction}
use Rattle.editor_messages.specs.declared.answer.Completion.{Completion}
use Rattle.editor_messages.specs.declared.answer.Diagnostic.{Diagnostic}
use Rattle.editor_messages.specs.declared.answer.Related.{Related}
use Rattle.editor_messages.specs.declared.answer.Signature.{Signature}
use Rattle.editor_messages.specs.declared.error_code.ErrorCode.{ErrorCode}
use Rattle.editor_messages.specs.declared.message.Id.{Id}
use Rattle.editor_messages.specs.declared.message.Id.TheVariants.{Number, Text}
use Rattle.editor_json.specs.Integers.{HasIntegers}
use Rattle.editor_json.specs.Sent.{action_data, completion_data, count_data, diagnostic_data, edit_data, error_data, fold_data, highlight_data, id_data, lens_data, link_data, optional, parameter_data, parameters_data, place_data, published_data, range_data, reply_data, result_data, signature_data, sure_data, symbol_data, text_data, with_related}
use Rattle.editor_json.proofs.Optional.{last_members}
use Rattle.editor_json.proofs.Shapes.{is_shaped, items_shaped, reads_back}

all_shaped : {X : Type 0} (n : ℕ) (f : X → Data) → ((x : X) → is_shaped n (f x) ≡ true) → (xs : List X) → items_shaped n (items_of (map f xs)) ≡ true
all_shaped n f h [] = refl
all_shaped n f h (x ∷ xs) = rw (h x, all_shaped n f h xs) refl

id_shaped : (id : Option Id) → is_shaped 126 (id_data id) ≡ true
id_shaped None = refl
id_shaped (Some (Number n)) = refl
id_shaped (Some (Text t)) = refl

refusal_shaped : (id : Option Id) (code : ErrorCode) (message : List ℕ) → is_shaped 127 (error_data id code message) ≡ true
refusal_shaped id code message = rw (id_shaped id) refl

-- a text of a completion is there or not
detail_shaped : (range : Range) (c : Completion) (detail documentation : List ℕ) → is_shaped 124 (object (optional (codes "detail") detail (optional (codes "documentation") documentation (last_members range c)))) ≡ true
detail_shaped range c [] [] = refl
detail_shaped range c [] (y ∷ ys) = refl
detail_shaped range c (x ∷ xs) [] = refl
detail_shaped range c (x ∷ xs) (y ∷ ys) = refl

completion_shaped : (range : Range) (c : Completion) → is_shaped 124 (completion_data range c) ≡ true
completion_shaped range c = detail_shaped range c (string_bytes c.detail) (string_bytes c.documentation)

kind_shaped : (uri code : List ℕ) (d : Diagnostic) (related : Option Related)
    → is_shaped 124 (object (optional (codes "code") code (member (codes "message") (text_data (string_bytes d.message)) (member (codes "range") (range_data d.range) (with_related uri related sure_data))))) ≡ true
kind_shaped uri [] d None = refl
kind_shaped uri [] d (Some r) = refl
kind_shaped uri (x ∷ xs) d None = refl
kind_shaped uri (x ∷ xs) d (Some r) = refl

diagnostic_shaped : (uri : List ℕ) (d : Diagnostic) → is_shaped 124 (diagnostic_data uri d) ≡ true
diagnostic_shaped uri d = kind_shaped uri d.code.now d d.related

version_shaped : (uri : List ℕ) (version : Option ℤ) (found : List Diagnostic) → items_shaped 124 (items_of (map (diagnostic_data uri) found)) ≡ true → is_shaped 127 (published_data uri version found) ≡ true
version_shaped uri None found h = rw h refl
version_shaped uri (Some version) found h = rw h refl

signature_shaped : (s : Signature) → is_shaped 124 (signature_data s) ≡ true
signature_shaped s = rw (all_shaped 122 parameter_data (λ p. refl) s.parameters.items) refl

action_shaped : (uri : List ℕ) (a : CodeAction) → is_shaped 125 (action_data uri a) ≡ true
action_shaped uri a = rw (all_shaped 121 edit_data (λ e. refl) a.edits.items) refl

result_shaped : (answer : Answer) → is_shaped 126 (result_data answer) ≡ true
result_shaped answers.Nothing = refl
result_shaped (answers.Abilities encoding) = refl
result_shaped (answers.Symbols symbols) = all_shaped 125 symbol_data (λ s. refl) symbols.items
result_shaped (answers.Folds folds) = all_shaped 125 fold_data (λ f. refl) folds.items
result_shaped (answers.Edits edits) = all_shaped 125 edit_data (λ e. refl) edits.items
result_shaped (answers.Places uri ranges) = all_shaped 125 (place_data (string_bytes uri)) (λ r. refl) ranges.items
result_shaped (answers.Place range) = refl
result_shaped (answers.Highlights highlights) = all_shaped 125 highlight_data (λ h. refl) highlights.items
result_shaped (answers.Rename rename) = rw (all_shaped 123 edit_data (λ e. refl) rename.edits.items) refl
result_shaped (answers.Hover hover) = refl
result_shaped (answers.Completions completions) = rw (all_shaped 124 (completion_data completions.range) (completion_shaped completions.range) completions.found.items) refl
result_shaped (answers.Fixes uri actions) = all_shaped 125 (action_data (string_bytes uri)) (action_shaped (string_bytes uri)) actions.items
result_shaped (answers.Signature signature) = rw (signature_shaped signature) refl
result_shaped (answers.Lenses lenses) = all_shaped 125 lens_data (λ l. refl) lenses.items
result_shaped (answers.Tokens numbers) = rw (all_shaped 124 count_data (λ n. refl) numbers.items) refl
result_shaped (answers.Links links) = all_shaped 125 link_data (λ l. refl) links.items

reply_shaped : (id : Id) (answer : Answer) → is_shaped 127 (reply_data id answer) ≡ true
reply_shaped id answer = rw (id_shaped (Some id), result_shaped answer) refl

pub reply_reads : (id : Id) (answer : Answer) (text : List ℕ) → text ≡ compact_text (reply_data id answer) → HasIntegers (id_data (Some id)) → HasIntegers (result_data answer) → read text ≡ Some (reply_data id answer)
reply_reads id answer text e h k = ap read e ∙ reads_back (reply_data id answer) (reply_shaped id answer) (h, (tt, (k, tt)))

pub refusal_reads : (id : Option Id) (code : ErrorCode) (message text : List ℕ) → text ≡ compact_text (error_data id code message) → HasIntegers (error_data id code message) → read text ≡ Some (error_data id code message)
refusal_reads id code message text e h = ap read e ∙ reads_back (error_data id code message) (refusal_shaped id code message) h

pub published_reads : (uri : List ℕ) (version : Option ℤ) (found : List Diagnostic) (text : List ℕ) → text ≡ compact_text (published_data uri version found) → HasIntegers (parameters_data uri version found)
    → read text ≡ Some (published_data uri version found)
published_reads uri version found text e h =
    ap read e ∙ reads_back (published_data uri version found) (version_shaped uri version found (all_shaped 124 (diagnostic_data uri) (diagnostic_shaped uri) found)) (tt, (tt, (h, tt)))
