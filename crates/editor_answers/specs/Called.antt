-- What is answered to the question what is called where an argument is written.
use Rattle.std.specs.Prelude.{◌≡◌, ℕ, List, Option, None, Some}
use Rattle.justfile_lines.specs.Positions.{IsOffset}
use Rattle.justfile_lines.specs.declared.encoding.Encoding.{Encoding}
use Rattle.justfile_lines.specs.declared.position.Position.{Position}
use Rattle.editor_messages.specs.declared.answer.Answer.{Answer}
use Rattle.editor_messages.specs.declared.answer.Answer.TheVariants as answers
use Rattle.editor_messages.specs.declared.answer.Signature.{Signature}
use Rattle.editor_language.specs.declared.mention.Mention.{Mention}
use Rattle.editor_language.specs.declared.parts.Analysis.{Analysis}

-- the answer is this, or that nothing is called
abbrev pub AnswersSignature : Option Signature → Answer → Type 0
AnswersSignature None answer = answer ≡ answers.Nothing
AnswersSignature (Some s) answer = answer ≡ answers.Signature s

-- The answer is what a language has for the position, by the mentions in the text.
pub record Signs (mentioned : List ℕ → Analysis → List Mention → Type 0) (signed : List ℕ → List Mention → ℕ → Option Signature → Type 0) (encoding : Encoding) (text : List ℕ) (analysis : Analysis) (position : Position) (answer : Answer) : Type 0 where
  pub offset : ℕ
  pub is_offset : IsOffset encoding text position offset
  pub mentions : List Mention
  pub are_mentions : mentioned text analysis mentions
  pub signature : Option Signature
  pub is_signature : signed text mentions offset signature
  pub is : AnswersSignature signature answer
