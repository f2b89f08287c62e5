-- Why there is no answer.
use Rattle.std.proofs.Common.{◌≡◌, ◌↔◌, ℕ, Bool, true, false, List, [], None, Some, Result, Ok, Err, IfErr, IfOk, IsOkUnless, IsTrue, refl, sym, subst}
use Rattle.editor_messages.specs.declared.answer.Answer.{Answer}
use Rattle.editor_messages.specs.declared.error_code.ErrorCode.{ErrorCode}
use Rattle.editor_messages.specs.declared.error_code.ErrorCode.TheVariants.{InvalidParams, RequestFailed}
use Rattle.justfile_lines.specs.declared.encoding.Encoding.{Encoding}
use Rattle.justfile_lines.specs.declared.position.Position.{Position}
use Rattle.editor_language.specs.declared.mention.Mention.{Mention}
use Rattle.editor_language.specs.declared.parts.Analysis.{Analysis}
use Rattle.editor_answers.specs.Answers.{Among, FailsFor, RefusesName, Replaces, lacking, no_name, wrong}
use Rattle.editor_answers.specs.Names.{IsDefinedAt}
use Rattle.editor_answers.specs.Renames.{Declines, Spoils, nowhere, spoilt}
use Rattle.editor_answers.specs.declared.failure.Failure.{Failure}
use Rattle.editor_answers.specs.declared.failure.Failure.TheVariants.{Memory, Refused}

-- only memory can run out
pub only_memory : {A : Type 0} (r : Result A Failure) (refused : ErrorCode → Type 0) → IsOkUnless r Memory → IfErr r (FailsFor refused)
only_memory (Ok a) refused h = tt
only_memory (Err e) refused h = subst (FailsFor refused) (sym h) tt

-- there is no name to replace
pub lacks_it : (f : Failure) (lacks : Type 0) → FailsFor (λ code. code ≡ RequestFailed) f → lacks → FailsFor (λ code. (code ≡ RequestFailed) × lacks) f
lacks_it Memory lacks h l = tt
lacks_it (Refused code message) lacks h l = (h, l)

pub apart : (is : Bool) → is ≡ true → is ≡ false → ⊥
apart is t f = cc

module _ (names : List ℕ → Type 0) (analysis : Analysis) (new : List ℕ) where
  -- the new name isn't a name
  pub not_named : (is : Bool) (lacks : Type 0) → IsTrue is ↔ names new → is ≡ false → RefusesName names analysis new lacks InvalidParams
  not_named is lacks iff f = no_name refl (λ (n : names new). apart is (iff.1 n) f)

  -- something is wrong
  pub wrong_text : (is : Bool) (lacks : Type 0) → IsTrue is ↔ (analysis.problems.items ≡ []) → is ≡ false → RefusesName names analysis new lacks RequestFailed
  wrong_text is lacks iff f = wrong refl (λ (e : analysis.problems.items ≡ []). apart is (iff.1 e) f)

  -- the new name is one, and nothing is wrong
  pub replaces_if : {E : Type 0} (r : Result Answer E) (is : Bool) (tells : Answer → Type 0) → names new → IsTrue is ↔ (analysis.problems.items ≡ []) → is ≡ true
      → IfOk r tells → IfOk r (λ answer. Replaces names analysis new (tells answer))
  replaces_if (Ok answer) is tells named iff t h = record { is_name = named; right = iff.0 t; is = h }
  replaces_if (Err e) is tells named iff t h = tt

  pub lacks_if : {A : Type 0} (r : Result A Failure) (lacks : ErrorCode → Type 0) → IfErr r (FailsFor lacks) → IfErr r (FailsFor (λ code. RefusesName names analysis new (lacks code) code))
  lacks_if (Ok a) lacks h = tt
  lacks_if (Err Memory) lacks h = tt
  lacks_if (Err (Refused code message)) lacks h = lacking h

module _ (mentioned : List ℕ → Analysis → List Mention → Type 0) (text : List ℕ) (analysis : Analysis) (mentions found : List Mention) where
  -- what holds of the mentions that were found
  pub tells_among : {E : Type 0} (r : Result Answer E) (holds : List Mention → Answer → Type 0) → mentioned text analysis mentions → found ≡ mentions → IfOk r (holds found)
      → IfOk r (λ answer. Among mentioned text analysis (λ ms. holds ms answer))
  tells_among (Ok answer) holds are same h = record { mentions = mentions; are_mentions = are; is = subst (λ (ms : List Mention). holds ms answer) same h }
  tells_among (Err e) holds are same h = tt

  pub lacks_among : {A : Type 0} (r : Result A Failure) (holds : List Mention → ErrorCode → Type 0) → mentioned text analysis mentions → found ≡ mentions → IfErr r (FailsFor (holds found))
      → IfErr r (FailsFor (λ code. Among mentioned text analysis (λ ms. holds ms code)))
  lacks_among (Ok a) holds are same h = tt
  lacks_among (Err Memory) holds are same h = tt
  lacks_among (Err (Refused code message)) holds are same h = record { mentions = mentions; are_mentions = are; is = subst (λ (ms : List Mention). holds ms code) same h }

-- a name that can't be replaced
module _ (knows : List ℕ → Analysis → Type 0) (mentioned : List ℕ → Analysis → List Mention → Type 0) (encoding : Encoding) (text : List ℕ) (mentions : List Mention)
    (position : Position) (new : List ℕ) where
  pub declining : (f : Failure) → FailsFor (λ code. code ≡ RequestFailed) f → IsDefinedAt encoding text mentions position None
      → FailsFor (λ code. (code ≡ RequestFailed) × Declines knows mentioned encoding text mentions position new) f
  declining Memory h at = tt
  declining (Refused code message) h at = (h, nowhere at)

  pub spoiling : {A : Type 0} (r : Result A Failure) (name : Mention) → IsDefinedAt encoding text mentions position (Some name)
      → IfErr r (FailsFor (λ code. (code ≡ RequestFailed) × Spoils knows mentioned encoding text mentions name new))
      → IfErr r (FailsFor (λ code. (code ≡ RequestFailed) × Declines knows mentioned encoding text mentions position new))
  spoiling (Ok a) name at h = tt
  spoiling (Err Memory) name at h = tt
  spoiling (Err (Refused code message)) name at h = (h.0, spoilt name at h.1)
