-- What a language has for the word at a position.
use Rattle.std.proofs.Common.{ℕ, List}
use Rattle.justfile_lines.specs.Positions.{IsOffset}
use Rattle.justfile_lines.specs.declared.encoding.Encoding.{Encoding}
use Rattle.justfile_lines.specs.declared.position.Position.{Position}
use Rattle.editor_messages.specs.declared.answer.Answer.{Answer}
use Rattle.editor_language.specs.declared.mention.Mention.{Mention}
use Rattle.editor_language.specs.declared.parts.Choices.{Choices}
use Rattle.editor_answers.specs.Names.{Explains, TellsOfWord}

pub explains : (completed : List ℕ → List Mention → ℕ → Choices → Type 0) (encoding : Encoding) (text : List ℕ) (mentions : List Mention) (position : Position) (offset : ℕ) (around choices : Choices)
    (answer : Answer) → IsOffset encoding text position offset → completed text mentions offset around → completed text mentions around.span.end choices
    → TellsOfWord encoding text choices answer → Explains encoding text mentions position completed answer
explains completed encoding text mentions position offset around choices answer at a c t =
    record { offset = offset; is_offset = at; around = around; are_around = a; choices = choices; are_choices = c; tells = t }
