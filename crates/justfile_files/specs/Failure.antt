-- Why the task failed for a file, and what is told of it.
use Rattle.std.specs.Prelude.{◌≡◌, ◌⊎◌, ℕ, All, List, [], ◌∷◌, ◌++◌, Option, None, Some, codes, string_bytes}
use Rattle.justfile_files.specs.Visible.{visible_lines, visible_name}
use Rattle.justfile_files.specs.declared.failure.Failure.{Failure}
use Rattle.justfile_files.specs.declared.failure.Failure.TheVariants as failures
use Rattle.justfile_files.specs.declared.formatter.Refusal.{Refusal}
use Rattle.justfile_files.specs.declared.formatter.Refusal.TheVariants as faults

abbrev pub failure_of : Refusal → Failure
failure_of (faults.Rejected lines) = failures.Rejected lines
failure_of (faults.Exhausted what) = failures.Exhausted what

-- the message with this reason
abbrev pub message_of : (name reason : List ℕ) → List ℕ
message_of name reason = codes "error: " ++ visible_name name ++ codes ": " ++ visible_lines reason ++ codes "\n"

-- The message names the file and has a reason, or tells that there was no memory for that.
abbrev pub IsMessage : (name message : List ℕ) → Type 0
IsMessage name message = ((reason : List ℕ) × (message ≡ message_of name reason)) ⊎ (message ≡ codes "error: out of memory\n")

-- the status of a file for which the task failed: 2 if its text is rejected, none if its report couldn't be written, and otherwise 3
abbrev pub failure_status : Failure → Option ℕ
failure_status (failures.Rejected lines) = Some 2
failure_status (failures.Writing error) = None
failure_status (failures.Reading error) = Some 3
failure_status (failures.NotUtf8 place) = Some 3
failure_status (failures.Exhausted what) = Some 3
failure_status (failures.Replacing error) = Some 3

-- The messages tell the failure: the lines of a text that is rejected, one message of any other failure, and at most one of a report that
-- couldn't be written.
abbrev pub TellFailure : (name : List ℕ) → Failure → (messages : List (List ℕ)) → Type 0
TellFailure name (failures.Rejected lines) messages = messages ≡ string_bytes lines ∷ []
TellFailure name (failures.Writing error) messages = All (IsMessage name) messages
TellFailure name failure messages = (message : List ℕ) × IsMessage name message × (messages ≡ message ∷ [])
