-- What is called at the cursor.
use Rattle.std.proofs.Common.{◌≡◌, ℕ, List, [], Option, Result, Ok, Err, IfOk, length, min}
use Rattle.std.specs.Prelude.{option_and_then, option_map}
use Rattle.editor_messages.specs.declared.answer.Signature.{Signature}
use Rattle.editor_language.specs.declared.mention.Mention.{Mention}
use Rattle.justfile_completion.specs.Calls.{call_told}
use Rattle.justfile_completion.specs.Completions.{AreCompletions}
use Rattle.justfile_completion.specs.declared.call.Call.{Call}
use Rattle.justfile_completion.specs.declared.found.Completions.{Completions}
use Rattle.justfile_signatures.specs.Signatures.{IsSignature, signature_of, told}

pub is_signature : {E : Type 0} (r : Result (Option Signature) E) (text : List ℕ) (mentions : List Mention) (offset : ℕ) (made : Completions) → AreCompletions [] text (min offset (length text)) made
    → IfOk r (λ s. option_map told s ≡ option_and_then (λ (c : Call). signature_of mentions (call_told c)) made.call) → IfOk r (IsSignature text mentions offset)
is_signature (Ok s) text mentions offset made are is = record { made = made; are = are; is = is }
is_signature (Err e) text mentions offset made are is = tt
