-- What is answered to requests to format.
use Rattle.std.specs.Prelude.{◌≡◌, ℕ, List, []}
use Rattle.justfile_lines.specs.declared.encoding.Encoding.{Encoding}
use Rattle.text_edits.specs.declared.edit.TextEdit.{TextEdit}
use Rattle.text_edits.specs.Edited.{IsEdited}
use Rattle.editor_messages.specs.declared.answer.Answer.{Answer}
use Rattle.editor_messages.specs.declared.answer.Answer.TheVariants.{Edits, Nothing}

-- this holds of the edits that the answer is
abbrev pub EditsWith : (List TextEdit → Type 0) → Answer → Type 0
EditsWith holds (Edits edits) = holds edits.items
EditsWith holds other = ⊥

-- The edits lead from the old text to the new one, and there are none if these are the same.
pub record LeadsTo (encoding : Encoding) (old new : List ℕ) (edits : List TextEdit) : Type 0 where
  pub leads : IsEdited encoding old edits new
  pub none : old ≡ new → edits ≡ []

-- The answer leads from the text to its formatted text.
pub record LeadsToFormatted (formats : List ℕ → List ℕ → Type 0) (encoding : Encoding) (text : List ℕ) (answer : Answer) : Type 0 where
  pub formatted : List ℕ
  pub is_formatted : formats text formatted
  pub edits : EditsWith (LeadsTo encoding text formatted) answer

-- The answer leads from the text to its formatted text, or there is none since the text has no formatted text.
pub data Formats (formats : List ℕ → List ℕ → Type 0) (unformatted : List ℕ → Type 0) (encoding : Encoding) (text : List ℕ) (answer : Answer) : Type 0 where
  unanswered : unformatted text → answer ≡ Nothing → Formats formats unformatted encoding text answer
  formatted : LeadsToFormatted formats encoding text answer → Formats formats unformatted encoding text answer

-- The edits lead to a text that has this formatted text.
pub record Keeps (formats : List ℕ → List ℕ → Type 0) (encoding : Encoding) (text formatted : List ℕ) (edits : List TextEdit) : Type 0 where
  pub after : List ℕ
  pub leads : IsEdited encoding text edits after
  pub is_formatted : formats after formatted

-- The answer leads from the text to one that has the same formatted text.
pub record KeepsFormatted (formats : List ℕ → List ℕ → Type 0) (encoding : Encoding) (text : List ℕ) (answer : Answer) : Type 0 where
  pub formatted : List ℕ
  pub is_formatted : formats text formatted
  pub edits : EditsWith (Keeps formats encoding text formatted) answer

-- The answer leads from the text to one that has the same formatted text, or there is none since the text has no formatted text.
pub data FormatsRange (formats : List ℕ → List ℕ → Type 0) (unformatted : List ℕ → Type 0) (encoding : Encoding) (text : List ℕ) (answer : Answer) : Type 0 where
  unanswered : unformatted text → answer ≡ Nothing → FormatsRange formats unformatted encoding text answer
  kept : KeepsFormatted formats encoding text answer → FormatsRange formats unformatted encoding text answer
