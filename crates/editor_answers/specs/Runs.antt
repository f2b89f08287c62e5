-- What is answered to the question what can be run as it is.
use Rattle.std.specs.Prelude.{◌≡◌, ℕ, List, map, string_bytes}
use Rattle.justfile_lines.specs.declared.encoding.Encoding.{Encoding}
use Rattle.text_edits.specs.declared.edit.Range.{Range}
use Rattle.editor_messages.specs.declared.answer.Answer.{Answer}
use Rattle.editor_messages.specs.declared.answer.Answer.TheVariants as answers
use Rattle.editor_messages.specs.declared.answer.Lens.{Lens}
use Rattle.editor_language.specs.declared.parts.Analysis.{Analysis}
use Rattle.editor_language.specs.declared.parts.Run.{Run}
use Rattle.editor_answers.specs.Ranges.{range_of}

-- where the name of what can be run is, and the name
abbrev pub Seen : Type 0
Seen = Range × List ℕ

abbrev pub seen : Lens → Seen
seen l = (l.range, string_bytes l.name)

abbrev pub to_see : Encoding → (text : List ℕ) → Run → Seen
to_see encoding text r = (range_of encoding text r.span, string_bytes r.name)

-- the answer is these
abbrev pub AnswersLenses : List Seen → Answer → Type 0
AnswersLenses wanted (answers.Lenses found) = map seen found.items ≡ wanted
AnswersLenses wanted other = ⊥

-- The answer is what a language has for the text.
pub record RunsIn (runs : List ℕ → Analysis → List Run → Type 0) (encoding : Encoding) (text : List ℕ) (analysis : Analysis) (answer : Answer) : Type 0 where
  pub found : List Run
  pub are_found : runs text analysis found
  pub is : AnswersLenses (map (to_see encoding text) found) answer
