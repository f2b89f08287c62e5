-- What the server does at a message, and what it is after that.
use Rattle.std.specs.Prelude.{◌≡◌, ℕ, List, Option, Some, Result, Ok, Err}
use Rattle.editor_messages.specs.declared.answer.Answer.{Answer}
use Rattle.editor_messages.specs.declared.error_code.ErrorCode.{ErrorCode}
use Rattle.editor_messages.specs.declared.message.Id.{Id}
use Rattle.editor_messages.specs.declared.message.Message.{Message}
use Rattle.editor_messages.specs.declared.message.Message.TheVariants as messages
use Rattle.editor_messages.specs.declared.message.Notification.{Notification}
use Rattle.editor_messages.specs.declared.message.Notification.TheVariants as told_of
use Rattle.editor_messages.specs.declared.message.Request.{Request}
use Rattle.editor_language.specs.declared.mention.Mention.{Mention}
use Rattle.editor_language.specs.declared.parts.Analysis.{Analysis}
use Rattle.editor_language.specs.declared.parts.Choices.{Choices}
use Rattle.editor_language.specs.declared.parts.FileLink.{FileLink}
use Rattle.editor_language.specs.declared.parts.Finding.{Finding}
use Rattle.editor_language.specs.declared.parts.QuickFix.{QuickFix}
use Rattle.editor_language.specs.declared.parts.Run.{Run}
use Rattle.editor_messages.specs.declared.answer.Signature.{Signature}
use Rattle.editor_answers.specs.declared.failure.Failure.{Failure}
use Rattle.editor_answers.specs.declared.failure.Failure.TheVariants.{Memory, Refused}
use Rattle.editor_server.specs.Model.{Answers, LeavesOnError, Notes, Refuses, Replies, encoding_after, reason_of, stage_after}
use Rattle.editor_server.specs.declared.reaction.Reaction.{Reaction}
use Rattle.editor_server.specs.declared.reaction.Reaction.TheVariants as reactions
use Rattle.editor_server.specs.declared.server.Server.{Server}

-- after a request the documents are as they were, and the stage is the next one
pub record AfterAll (request : Request) (old new : Server) : Type 0 where
  pub documents : new.documents ≡ old.documents
  pub stage : new.stage ≡ stage_after old.stage request
  pub encoding : new.encoding ≡ encoding_after old.stage old.encoding request

-- nothing but the documents may differ
pub record Goes (notes : Type 0) (old new : Server) : Type 0 where
  pub stage : new.stage ≡ old.stage
  pub encoding : new.encoding ≡ old.encoding
  pub is : notes

-- a message is refused
abbrev pub IsRefusal : Option Id → ErrorCode → Reaction → Type 0
IsRefusal id code (reactions.Refuse to reason message) = (to ≡ id) × (reason ≡ code)
IsRefusal id code other = ⊥

-- what is told outside the work changes nothing
abbrev pub IsIdle : (status : ℕ) → Notification → Reaction → Type 0
IsIdle status told_of.Exit reaction = reaction ≡ reactions.Exit status
IsIdle status other reaction = reaction ≡ reactions.Silent

-- the answer or the refusal, under its id
abbrev pub IsMade : Id → Result Answer Failure → Reaction → Type 0
IsMade id (Ok answer) reaction = reaction ≡ reactions.Reply id answer
IsMade id (Err (Refused code message)) reaction = IsRefusal (Some id) code reaction
IsMade id (Err Memory) reaction = ⊥

module _ (knows : List ℕ → Analysis → Type 0) (finds : List ℕ → List ℕ → Analysis → List Finding → Type 0) (mentioned : List ℕ → Analysis → List Mention → Type 0) (formats : List ℕ → List ℕ → Type 0) (unformatted names : List ℕ → Type 0) (linked : Option (List ℕ) → List ℕ → Analysis → List FileLink → Type 0) (completed : List ℕ → List Mention → ℕ → Choices → Type 0) (fixed : List ℕ → List ℕ → Analysis → List QuickFix → Type 0) (signed : List ℕ → List Mention → ℕ → Option Signature → Type 0) (runs : List ℕ → Analysis → List Run → Type 0) where
  -- A request is answered or refused under its own id, by the document's own text and what is known of it. What is told changes the document that it names, and no other one.
  abbrev pub Reacts : Message → (old new : Server) → Reaction → Type 0
  Reacts (messages.Request id request) old new reaction =
      Replies id (Answers knows mentioned formats unformatted names linked completed fixed signed runs old.stage old.encoding old.documents request) (Refuses knows mentioned names old.stage old.encoding old.documents request) reaction × AfterAll request old new
  Reacts (messages.Notification it) old new reaction = Goes (Notes knows finds old.stage old.encoding it old.documents new.documents reaction) old new
  Reacts (messages.Wrong id code) old new reaction = IsRefusal id (reason_of old.stage code) reaction × (new ≡ old)
  Reacts messages.Ignored old new reaction = (reaction ≡ reactions.Silent) × (new ≡ old)

-- memory ran out
abbrev pub Fails : Message → (old new : Server) → Type 0
Fails (messages.Request id request) old new = AfterAll request old new
Fails (messages.Notification it) old new = Goes (LeavesOnError old.stage it old.documents new.documents) old new
Fails (messages.Wrong id code) old new = ⊥
Fails messages.Ignored old new = ⊥
