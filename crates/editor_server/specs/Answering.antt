-- What is sent for what the server does, and for what it receives.
use Rattle.std.specs.Prelude.{◌≡◌, ℕ, List, Option, Some, None, string_bytes}
use Rattle.serde_json.specs.Data.{Data}
use Rattle.serde_json.specs.View.{view}
use Rattle.serde_json.specs.Written.{compact_text}
use Rattle.serde_json.specs.declared.value.Value.{Value}
use Rattle.editor_messages.specs.declared.error_code.ErrorCode.TheVariants.{ParseError}
use Rattle.editor_messages.specs.declared.message.Message.{Message}
use Rattle.editor_language.specs.declared.mention.Mention.{Mention}
use Rattle.editor_language.specs.declared.parts.Analysis.{Analysis}
use Rattle.editor_language.specs.declared.parts.Choices.{Choices}
use Rattle.editor_language.specs.declared.parts.FileLink.{FileLink}
use Rattle.editor_language.specs.declared.parts.Finding.{Finding}
use Rattle.editor_language.specs.declared.parts.QuickFix.{QuickFix}
use Rattle.editor_language.specs.declared.parts.Run.{Run}
use Rattle.editor_messages.specs.declared.answer.Signature.{Signature}
use Rattle.editor_json.specs.Received.{IsParsed}
use Rattle.editor_json.specs.Requests.{said_by, said_in}
use Rattle.editor_json.specs.Sent.{error_data, published_data, reply_data}
use Rattle.editor_server.specs.Model.{LosesAll}
use Rattle.editor_server.specs.Steps.{Fails, IsRefusal, Reacts}
use Rattle.editor_server.specs.declared.reaction.Reaction.{Reaction}
use Rattle.editor_server.specs.declared.reaction.Reaction.TheVariants as reactions
use Rattle.editor_server.specs.declared.sent.Sent.{Sent}
use Rattle.editor_server.specs.declared.sent.Sent.TheVariants as outcomes
use Rattle.editor_server.specs.declared.server.Server.{Server}

-- a message is sent whose body is this value
abbrev pub IsBody : Data → Sent → Type 0
IsBody d (outcomes.Text text) = string_bytes text ≡ compact_text d
IsBody d other = ⊥

-- the server does this by what it sends
abbrev pub IsSent : Reaction → Sent → Type 0
IsSent reactions.Silent done = done ≡ outcomes.Nothing
IsSent (reactions.Reply id answer) done = IsBody (reply_data id answer) done
IsSent (reactions.Refuse id code message) done = IsBody (error_data id code message.now) done
IsSent (reactions.Publish uri version found) done = IsBody (published_data uri.now version found.items) done
IsSent (reactions.Exit status) done = done ≡ outcomes.Exit status

-- no text is known, and nothing else changes
pub record LosesTexts (old new : Server) : Type 0 where
  pub stage : new.stage ≡ old.stage
  pub encoding : new.encoding ≡ old.encoding
  pub lost : LosesAll new.documents

-- it is refused, and no text is known, since it may have been a change
abbrev pub IsUnread : (old new : Server) (done : Sent) → Type 0
IsUnread old new done = LosesTexts old new × ((reaction : Reaction) × IsRefusal None ParseError reaction × IsSent reaction done)

module _ (knows : List ℕ → Analysis → Type 0) (finds : List ℕ → List ℕ → Analysis → List Finding → Type 0) (mentioned : List ℕ → Analysis → List Mention → Type 0) (formats : List ℕ → List ℕ → Type 0) (unformatted names : List ℕ → Type 0) (linked : Option (List ℕ) → List ℕ → Analysis → List FileLink → Type 0) (completed : List ℕ → List Mention → ℕ → Choices → Type 0) (fixed : List ℕ → List ℕ → Analysis → List QuickFix → Type 0) (signed : List ℕ → List Mention → ℕ → Option Signature → Type 0) (runs : List ℕ → Analysis → List Run → Type 0) where
  -- the server reacts to the message that a value is, and what it does is sent
  abbrev pub Handles : (d : Data) (old new : Server) (done : Sent) → Type 0
  Handles d old new done = (message : Message) × (reaction : Reaction) × (said_by message ≡ said_in d) × Reacts knows finds mentioned formats unformatted names linked completed fixed signed runs message old new reaction × IsSent reaction done

  -- a body is the value of a message, or no JSON
  abbrev pub HandlesParsed : Option Value → (old new : Server) (done : Sent) → Type 0
  HandlesParsed (Some value) old new done = Handles (view value) old new done
  HandlesParsed None old new done = IsUnread old new done

  -- Memory ran out at the message that a value is: no text is known, since the message couldn't be made; or it failed; or what the server did isn't sent.
  pub data Unanswered (d : Data) (old new : Server) : Type 0 where
    lost : LosesTexts old new → Unanswered d old new
    failed : (message : Message) → said_by message ≡ said_in d → Fails message old new → Unanswered d old new
    unsent : (message : Message) (reaction : Reaction) → said_by message ≡ said_in d → Reacts knows finds mentioned formats unformatted names linked completed fixed signed runs message old new reaction → Unanswered d old new

  abbrev pub UnansweredParsed : Option Value → (old new : Server) → Type 0
  UnansweredParsed (Some value) old new = Unanswered (view value) old new
  UnansweredParsed None old new = LosesTexts old new

  -- memory ran out at a body, before it was known or at its message
  pub data FailsAt (body : List ℕ) (old new : Server) : Type 0 where
    unparsed : LosesTexts old new → FailsAt body old new
    parsed : (value : Option Value) → IsParsed body value → UnansweredParsed value old new → FailsAt body old new

  abbrev pub Answered : (body : List ℕ) (old new : Server) (done : Sent) → Type 0
  Answered body old new done = (value : Option Value) × IsParsed body value × HandlesParsed value old new done
