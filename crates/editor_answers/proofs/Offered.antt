-- What can be written at a position.
use Rattle.std.proofs.Common.{◌≡◌, ℕ, List, subst}
use Rattle.justfile_lines.specs.Positions.{IsOffset}
use Rattle.justfile_lines.specs.declared.encoding.Encoding.{Encoding}
use Rattle.justfile_lines.specs.declared.position.Position.{Position}
use Rattle.editor_messages.specs.declared.answer.Answer.{Answer}
use Rattle.editor_language.specs.declared.mention.Mention.{Mention}
use Rattle.editor_language.specs.declared.parts.Analysis.{Analysis}
use Rattle.editor_language.specs.declared.parts.Choices.{Choices}
use Rattle.editor_answers.specs.Answers.{Completes, Offers}

-- by the mentions that were found
pub offers_among : (mentioned : List ℕ → Analysis → List Mention → Type 0) (completed : List ℕ → List Mention → ℕ → Choices → Type 0) (encoding : Encoding) (text : List ℕ) (analysis : Analysis)
    (position : Position) (mentions lent : List Mention) (offset : ℕ) (choices : Choices) (answer : Answer) → mentioned text analysis mentions → lent ≡ mentions
    → IsOffset encoding text position offset → completed text lent offset choices → Offers encoding text choices answer → Completes mentioned completed encoding text analysis position answer
offers_among mentioned completed encoding text analysis position mentions lent offset choices answer are same at made is = record {
  mentions = mentions;
  are_mentions = are;
  is = record { offset = offset; is_offset = at; choices = choices; are_choices = subst (λ (ms : List Mention). completed text ms offset choices) same made; is = is };
}
