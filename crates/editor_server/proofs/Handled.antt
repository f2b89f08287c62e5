-- What is done with what is received.
use Rattle.std.proofs.Common.{◌≡◌, ◌⊎◌, inl, inr, ℕ, List, Option, None, Some, Result, Ok, Err, IfOk, OnOk, refl, subst, String, string_bytes}
use Rattle.std.specs.declared.alloc.Global.{Global}
use Rattle.serde_json.specs.Written.{compact_text}
use Rattle.editor_messages.specs.declared.error_code.ErrorCode.{ErrorCode}
use Rattle.editor_messages.specs.declared.error_code.ErrorCode.TheVariants.{InternalError, InvalidRequest}
use Rattle.editor_language.specs.declared.mention.Mention.{Mention}
use Rattle.editor_language.specs.declared.parts.Analysis.{Analysis}
use Rattle.editor_language.specs.declared.parts.Choices.{Choices}
use Rattle.editor_language.specs.declared.parts.FileLink.{FileLink}
use Rattle.editor_language.specs.declared.parts.Finding.{Finding}
use Rattle.editor_language.specs.declared.parts.QuickFix.{QuickFix}
use Rattle.editor_language.specs.declared.parts.Run.{Run}
use Rattle.editor_messages.specs.declared.answer.Signature.{Signature}
use Rattle.editor_json.specs.Sent.{error_data}
use Rattle.editor_server.specs.Answering.{Answered, FailsAt, LosesTexts}
use Rattle.editor_server.specs.Served.{Bytes, Handles, Tells, Writes, answered, failed}
use Rattle.editor_server.specs.declared.sent.Sent.{Sent}
use Rattle.editor_server.specs.declared.sent.Sent.TheVariants as outcomes
use Rattle.editor_server.specs.declared.server.Server.{Server}

pub told : {A E : Type 0} (r : Result A E) (code : ErrorCode) (message body : List ℕ) (before after : Bytes) → body ≡ compact_text (error_data None code message)
    → OnOk r (Writes body before after) → OnOk r (Tells code before after)
told (Ok a) code message body before after is h = inl (message, subst (λ (b : List ℕ). Writes b before after) is h)
told (Err e) code message body before after is h = tt

pub untold : (code : ErrorCode) (before : Bytes) → Tells code before before
untold code before = inr refl

-- the texts are lost, and that is told
pub lost_and_told : {E : Type 0} (r : Result (Option ℕ) E) (old new : Server) (before after : Bytes) → LosesTexts old new → OnOk r (Tells InvalidRequest before after) → IfOk r (λ exits. exits ≡ None)
    → IfOk r (λ exits. LosesTexts old new × Tells InvalidRequest before after × (exits ≡ None))
lost_and_told (Ok exits) old new before after lost tells goes = (lost, tells, goes)
lost_and_told (Err e) old new before after lost tells goes = tt

module _ (knows : List ℕ → Analysis → Type 0) (finds : List ℕ → List ℕ → Analysis → List Finding → Type 0) (mentioned : List ℕ → Analysis → List Mention → Type 0) (formats : List ℕ → List ℕ → Type 0) (unformatted names : List ℕ → Type 0) (linked : Option (List ℕ) → List ℕ → Analysis → List FileLink → Type 0) (completed : List ℕ → List Mention → ℕ → Choices → Type 0) (fixed : List ℕ → List ℕ → Analysis → List QuickFix → Type 0) (signed : List ℕ → List Mention → ℕ → Option Signature → Type 0) (runs : List ℕ → Analysis → List Run → Type 0) (body : List ℕ) (old new : Server) where
  abbrev Does : (before after : Bytes) (exits : Option ℕ) → Type 0
  Does before after exits = Handles knows finds mentioned formats unformatted names linked completed fixed signed runs body old new before after exits

  abbrev IsDone : Sent → Type 0
  IsDone done = Answered knows finds mentioned formats unformatted names linked completed fixed signed runs body old new done

  pub done_silently : (before : Bytes) (done : Sent) → done ≡ outcomes.Nothing → IsDone done → Does before before None
  done_silently before done e is = answered outcomes.Nothing (subst IsDone e is) (refl, refl)

  pub done_at_exit : (before : Bytes) (done : Sent) (status : ℕ) → done ≡ outcomes.Exit status → IsDone done → Does before before (Some status)
  done_at_exit before done status e is = answered (outcomes.Exit status) (subst IsDone e is) (refl, refl)

  pub done_by_text : {E : Type 0} (r : Result (Option ℕ) E) (done : Sent) (text : String Global) (sent : List ℕ) (before after : Bytes) → done ≡ outcomes.Text text → IsDone done
      → sent ≡ string_bytes text → OnOk r (Writes sent before after) → IfOk r (λ exits. exits ≡ None) → IfOk r (Does before after)
  done_by_text (Ok exits) done text sent before after e is same writes goes =
      answered (outcomes.Text text) (subst IsDone e is) (subst (λ (b : List ℕ). Writes b before after) same writes, goes)
  done_by_text (Err e) done text sent before after is it same writes goes = tt

  pub not_done : {E : Type 0} (r : Result (Option ℕ) E) (before after : Bytes) → FailsAt knows finds mentioned formats unformatted names linked completed fixed signed runs body old new
      → OnOk r (Tells InternalError before after) → IfOk r (λ exits. exits ≡ None) → IfOk r (Does before after)
  not_done (Ok exits) before after fails tells goes = failed fails tells goes
  not_done (Err e) before after fails tells goes = tt
