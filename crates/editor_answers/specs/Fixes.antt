-- What is answered to the question how something is set right.
use Rattle.std.specs.Prelude.{◌≡◌, ◌&&◌, ℕ, Bool, nat_le, List, filter, map, string_bytes}
use Rattle.justfile_lines.specs.Positions.{IsOffset}
use Rattle.justfile_lines.specs.declared.encoding.Encoding.{Encoding}
use Rattle.text_edits.specs.declared.edit.Range.{Range}
use Rattle.text_edits.specs.declared.edit.TextEdit.{TextEdit}
use Rattle.editor_messages.specs.declared.answer.Answer.{Answer}
use Rattle.editor_messages.specs.declared.answer.Answer.TheVariants.{Fixes}
use Rattle.editor_messages.specs.declared.answer.CodeAction.{CodeAction}
use Rattle.editor_language.specs.declared.parts.Analysis.{Analysis}
use Rattle.editor_language.specs.declared.parts.QuickFix.{QuickFix}
use Rattle.editor_language.specs.declared.parts.Replacement.{Replacement}
use Rattle.editor_language.specs.declared.parts.Span.{Span}
use Rattle.editor_answers.specs.Ranges.{range_of}

-- a range, and the text that is put in its place
abbrev pub Put : Type 0
Put = Range × List ℕ

abbrev pub put : TextEdit → Put
put e = (e.range, string_bytes e.text)

abbrev pub to_put : Encoding → (text : List ℕ) → Replacement → Put
to_put encoding text r = (range_of encoding text r.span, string_bytes r.text)

-- what is done, by which edits
pub record Deed : Type 0 where
  pub title : List ℕ
  pub puts : List Put

-- what an action does, and what is to be done by a fix: no part that it replaces ends after the text
abbrev pub deed : CodeAction → Deed
deed a = record { title = string_bytes a.title; puts = map put a.edits.items }

abbrev pub to_do : Encoding → (text : List ℕ) → QuickFix → Deed
to_do encoding text f = record { title = string_bytes f.title; puts = map (to_put encoding text) f.replacements.items }

-- whether what a fix sets right is in a part of the text, or next to it
abbrev pub is_in : (start end : ℕ) → QuickFix → Bool
is_in start end f = nat_le f.span.start end && nat_le start f.span.end

-- the answer is that these are done in the document with this address
abbrev pub AnswersFixes : (uri : List ℕ) → List Deed → Answer → Type 0
AnswersFixes uri deeds (Fixes at actions) = (string_bytes at ≡ uri) × (map deed actions.items ≡ deeds)
AnswersFixes uri deeds other = ⊥

-- The answer is what sets right what is wrong in a range of the text.
pub record FixesIn (fixed : List ℕ → List ℕ → Analysis → List QuickFix → Type 0) (encoding : Encoding) (uri text : List ℕ) (analysis : Analysis) (range : Range) (answer : Answer) : Type 0 where
  pub fixes : List QuickFix
  pub are_fixes : fixed uri text analysis fixes
  pub start : ℕ
  pub end : ℕ
  pub starts : IsOffset encoding text range.start start
  pub ends : IsOffset encoding text range.end end
  pub is : AnswersFixes uri (map (to_do encoding text) (filter (is_in start end) fixes)) answer
