-- What is served over streams: what is read, what the server does after it, and what is written.
use Rattle.std.specs.Prelude.{◌≡◌, ◌+◌, ◌-◌, ◌^◌, ◌⊎◌, ℕ, List, Option, None, Some, false, string_bytes}
use Rattle.std.specs.BTreeMap.{IsEmpty}
use Rattle.std.specs.Io.KnownBytes.{Appends}
use Rattle.serde_json.specs.Written.{compact_text}
use Rattle.message_stream.specs.Header.{ReadsMessage, message_text}
use Rattle.message_stream.specs.declared.received.Received.{Received}
use Rattle.message_stream.specs.declared.received.Received.TheVariants as inputs
use Rattle.editor_messages.specs.declared.error_code.ErrorCode.{ErrorCode}
use Rattle.editor_messages.specs.declared.error_code.ErrorCode.TheVariants.{InternalError, InvalidRequest}
use Rattle.editor_language.specs.declared.mention.Mention.{Mention}
use Rattle.editor_language.specs.declared.parts.Analysis.{Analysis}
use Rattle.editor_language.specs.declared.parts.Choices.{Choices}
use Rattle.editor_language.specs.declared.parts.FileLink.{FileLink}
use Rattle.editor_language.specs.declared.parts.Finding.{Finding}
use Rattle.editor_language.specs.declared.parts.QuickFix.{QuickFix}
use Rattle.editor_language.specs.declared.parts.Run.{Run}
use Rattle.editor_messages.specs.declared.answer.Signature.{Signature}
use Rattle.editor_json.specs.Sent.{error_data}
use Rattle.editor_server.specs.Answering.{Answered, FailsAt, LosesTexts}
use Rattle.editor_server.specs.declared.reaction.Stage.TheVariants.{New}
use Rattle.editor_server.specs.declared.sent.Sent.{Sent}
use Rattle.editor_server.specs.declared.sent.Sent.TheVariants as outcomes
use Rattle.editor_server.specs.declared.server.Server.{Server}
use Rattle.editor_server.specs.declared.stream.TheConstants.{CUT_OFF, LIMIT}

-- the bytes that are left to read, or those that were written, where they are known
abbrev pub Bytes : Type 0
Bytes = Option (List ℕ)

-- a message with this body was written
abbrev pub Writes : (body : List ℕ) → (old new : Bytes) → Type 0
Writes body old new = Appends old new (message_text body)

-- What is to be sent was written, or nothing was. The server goes on, or exits with a status.
abbrev pub Delivers : Sent → (old new : Bytes) → (exits : Option ℕ) → Type 0
Delivers outcomes.Nothing old new exits = (new ≡ old) × (exits ≡ None)
Delivers (outcomes.Text text) old new exits = Writes (string_bytes text) old new × (exits ≡ None)
Delivers (outcomes.Exit status) old new exits = (new ≡ old) × (exits ≡ Some status)

-- an error without an id was written, or nothing was, for want of memory
abbrev pub Tells : ErrorCode → (old new : Bytes) → Type 0
Tells code old new = ((message : List ℕ) × Writes (compact_text (error_data None code message)) old new) ⊎ (new ≡ old)

-- a server that isn't initialized and has no document
pub record IsFresh (server : Server) : Type 0 where
  pub stage : server.stage ≡ New
  pub none : IsEmpty server.documents.list
  pub lost : server.documents.has_lost ≡ false

-- a server, what is left to read, and what was written
pub record Moment : Type 0 where
  pub server : Server
  pub input : Bytes
  pub output : Bytes

module _ (knows : List ℕ → Analysis → Type 0) (finds : List ℕ → List ℕ → Analysis → List Finding → Type 0) (mentioned : List ℕ → Analysis → List Mention → Type 0) (formats : List ℕ → List ℕ → Type 0) (unformatted names : List ℕ → Type 0) (linked : Option (List ℕ) → List ℕ → Analysis → List FileLink → Type 0) (completed : List ℕ → List Mention → ℕ → Choices → Type 0) (fixed : List ℕ → List ℕ → Analysis → List QuickFix → Type 0) (signed : List ℕ → List Mention → ℕ → Option Signature → Type 0) (runs : List ℕ → Analysis → List Run → Type 0) where
  -- the server reacts to a body, and what that calls for was written; or memory ran out, and that is told
  pub data Handles (body : List ℕ) (old new : Server) (before after : Bytes) (exits : Option ℕ) : Type 0 where
    answered : (done : Sent) → Answered knows finds mentioned formats unformatted names linked completed fixed signed runs body old new done → Delivers done before after exits
        → Handles body old new before after exits
    failed : FailsAt knows finds mentioned formats unformatted names linked completed fixed signed runs body old new → Tells InternalError before after → exits ≡ None → Handles body old new before after exits

  -- What is received is handled. At the end of the input the server exits. What isn't read may have changed any text.
  abbrev pub Takes : Received → (old new : Server) (before after : Bytes) (exits : Option ℕ) → Type 0
  Takes (inputs.Message body) old new before after exits = Handles body.items old new before after exits
  Takes inputs.WrongHeader old new before after exits = LosesTexts old new × Tells InvalidRequest before after × (exits ≡ None)
  Takes inputs.TooLong old new before after exits = LosesTexts old new × Tells InvalidRequest before after × (exits ≡ None)
  Takes inputs.End old new before after exits = (new ≡ old) × (after ≡ before) × (exits ≡ Some CUT_OFF)

  -- one message is read and handled
  pub record Serves (exits : Option ℕ) (now next : Moment) : Type 0 where
    pub received : Received
    pub reads : ReadsMessage now.input next.input LIMIT received
    pub takes : Takes received now.server next.server now.output next.output exits

  -- so many messages after the start, the server goes on
  pub data GoesOn (start : Moment) : ℕ → Moment → Type 0 where
    at_start : GoesOn start 0 start
    one_more : (count : ℕ) (now next : Moment) → GoesOn start count now → Serves None now next → GoesOn start (count + 1) next

  -- the server exits with this status, after one more message, or since there were as many as are counted
  pub data Exits (count : ℕ) (status : ℕ) (now next : Moment) : Type 0 where
    after_one : Serves (Some status) now next → Exits count status now next
    after_all : count ≡ 2 ^ 64 - 1 → status ≡ CUT_OFF → next ≡ now → Exits count status now next

  -- Message after message is read and handled, from a fresh server on, until it exits with this status.
  pub record IsServed (input output : Bytes) (status : ℕ) (left written : Bytes) : Type 0 where
    pub first : Server
    pub fresh : IsFresh first
    pub count : ℕ
    pub now : Moment
    pub goes : GoesOn (record { server = first; input = input; output = output }) count now
    pub last : Server
    pub exits : Exits count status now (record { server = last; input = left; output = written })
