-- What is known and answered after a body that is no JSON, and after a value.
use Rattle.std.proofs.Common.{◌≡◌, ℕ, List, Option, None, Result, Ok, Err, IfOk, OnErr}
use Rattle.serde_json.specs.Data.{Data}
use Rattle.serde_json.specs.declared.value.Value.{Value}
use Rattle.editor_messages.specs.declared.error_code.ErrorCode.TheVariants.{ParseError}
use Rattle.editor_messages.specs.declared.message.Message.{Message}
use Rattle.editor_language.specs.declared.mention.Mention.{Mention}
use Rattle.editor_language.specs.declared.parts.Analysis.{Analysis}
use Rattle.editor_language.specs.declared.parts.Choices.{Choices}
use Rattle.editor_language.specs.declared.parts.FileLink.{FileLink}
use Rattle.editor_language.specs.declared.parts.Finding.{Finding}
use Rattle.editor_language.specs.declared.parts.QuickFix.{QuickFix}
use Rattle.editor_language.specs.declared.parts.Run.{Run}
use Rattle.editor_messages.specs.declared.answer.Signature.{Signature}
use Rattle.editor_json.specs.Received.{IsParsed}
use Rattle.editor_json.specs.Requests.{said_by, said_in}
use Rattle.editor_server.proofs.Kept.{known_empty}
use Rattle.editor_server.specs.Answering.{Answered, FailsAt, Handles, HandlesParsed, IsSent, IsUnread, LosesTexts, Unanswered, UnansweredParsed, parsed, unsent}
use Rattle.editor_server.specs.Changed.{AreKnown}
use Rattle.editor_server.specs.Steps.{IsRefusal, Reacts}
use Rattle.editor_server.specs.declared.reaction.Reaction.{Reaction}
use Rattle.editor_server.specs.declared.sent.Sent.{Sent}
use Rattle.editor_server.specs.declared.server.Server.{Server}

pub known_unread : (knows : List ℕ → Analysis → Type 0) (old new : Server) → LosesTexts old new → AreKnown knows new.documents.list
known_unread knows old new h = known_empty knows new.documents.list h.lost.none

pub unread : {E : Type 0} (old new : Server) (reaction : Reaction) (r : Result Sent E) → LosesTexts old new → IsRefusal None ParseError reaction → IfOk r (IsSent reaction) → IfOk r (IsUnread old new)
unread old new reaction (Ok done) loses refuses h = (loses, (reaction, refuses, h))
unread old new reaction (Err e) loses refuses h = tt

module _ (knows : List ℕ → Analysis → Type 0) (finds : List ℕ → List ℕ → Analysis → List Finding → Type 0) (mentioned : List ℕ → Analysis → List Mention → Type 0) (formats : List ℕ → List ℕ → Type 0) (unformatted names : List ℕ → Type 0) (linked : Option (List ℕ) → List ℕ → Analysis → List FileLink → Type 0) (completed : List ℕ → List Mention → ℕ → Choices → Type 0) (fixed : List ℕ → List ℕ → Analysis → List QuickFix → Type 0) (signed : List ℕ → List Mention → ℕ → Option Signature → Type 0) (runs : List ℕ → Analysis → List Run → Type 0) (old new : Server) where
  pub handled : {E : Type 0} (d : Data) (message : Message) (reaction : Reaction) (r : Result Sent E) → said_by message ≡ said_in d → Reacts knows finds mentioned formats unformatted names linked completed fixed signed runs message old new reaction → IfOk r (IsSent reaction)
      → IfOk r (Handles knows finds mentioned formats unformatted names linked completed fixed signed runs d old new)
  handled d message reaction (Ok done) says reacts h = (message, reaction, says, reacts, h)
  handled d message reaction (Err e) says reacts h = tt

  pub answered : {E : Type 0} (body : List ℕ) (value : Option Value) (r : Result Sent E) → IsParsed body value → IfOk r (HandlesParsed knows finds mentioned formats unformatted names linked completed fixed signed runs value old new)
      → IfOk r (Answered knows finds mentioned formats unformatted names linked completed fixed signed runs body old new)
  answered body value (Ok done) is h = (value, is, h)
  answered body value (Err e) is h = tt

  -- what was done isn't sent
  pub unanswered : {A E : Type 0} (d : Data) (message : Message) (reaction : Reaction) (r : Result A E) → said_by message ≡ said_in d
      → Reacts knows finds mentioned formats unformatted names linked completed fixed signed runs message old new reaction → OnErr r (Unanswered knows finds mentioned formats unformatted names linked completed fixed signed runs d old new)
  unanswered d message reaction (Ok done) says reacts = tt
  unanswered d message reaction (Err e) says reacts = unsent message reaction says reacts

  pub fails_at : {A E : Type 0} (body : List ℕ) (value : Option Value) (r : Result A E) → IsParsed body value
      → OnErr r (UnansweredParsed knows finds mentioned formats unformatted names linked completed fixed signed runs value old new) → OnErr r (FailsAt knows finds mentioned formats unformatted names linked completed fixed signed runs body old new)
  fails_at body value (Ok done) is h = tt
  fails_at body value (Err e) is h = parsed value is h

-- nothing is sent after a body that is no JSON
pub lost_if : {A E : Type 0} (r : Result A E) (lost : Type 0) → lost → OnErr r lost
lost_if (Ok a) lost h = tt
lost_if (Err e) lost h = h
