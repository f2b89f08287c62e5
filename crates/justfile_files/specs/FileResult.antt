-- What was done with one file, before any failure is told.
use Rattle.std.specs.Prelude.{◌≡◌, ℕ, Bool, List, [], Option, IfSome, None, Some, Result, Ok, Err, string_bytes, if◌then◌else◌}
use Rattle.std.specs.List.{FoldsTo}
use Rattle.justfile_files.specs.Failure.{TellFailure, failure_status}
use Rattle.justfile_files.specs.Folder.{Files, KeepsFiles, Replaces}
use Rattle.justfile_files.specs.Outcome.{ChangesFiles, HasOutcome, HasReport, IsReport, Outcome, Report, Takes, changed_name, lost, messages_of, none, report_of, status_of, written}
use Rattle.justfile_files.specs.Request.{changes_files}
use Rattle.justfile_files.specs.declared.failure.Failure.{Failure}
use Rattle.justfile_files.specs.declared.failure.Failure.TheVariants as failures
use Rattle.justfile_files.specs.declared.request.Task.{Task}
use Rattle.justfile_files.specs.declared.request.Task.TheVariants.{Check, Diff, Format, FormatAndName}

-- the status, unless writing the report failed
abbrev pub unless_lost : Report → ℕ → Option ℕ
unless_lost none status = Some status
unless_lost (written text) status = Some status
unless_lost (lost text messages) status = None

abbrev pub reported_status : Outcome → Option ℕ
reported_status outcome = unless_lost (report_of outcome) (status_of outcome)

-- the status of a result, which is whether the file is formatted now
abbrev pub result_status : Result Bool Failure → Option ℕ
result_status (Ok is) = Some (if is then 0 else 1)
result_status (Err failure) = failure_status failure

abbrev pub TellResult : (name : List ℕ) → Result Bool Failure → (messages : List (List ℕ)) → Type 0
TellResult name (Ok is) messages = messages ≡ []
TellResult name (Err failure) messages = TellFailure name failure messages

-- If the failure is that the text is rejected, `Holds` applies to the lines that tell why. It isn't one of writing.
abbrev pub IsRefused : (Holds : List ℕ → Type 0) → Failure → Type 0
IsRefused Holds (failures.Rejected lines) = Holds (string_bytes lines)
IsRefused Holds failure = failure_status failure ≡ Some 3

-- the text of a report, if there is one
abbrev pub report_in : Option (List ℕ) → Report
report_in None = none
report_in (Some text) = written text

-- Writing the text of a report failed. There was one.
abbrev pub LosesText : {O : Type 0} → (loses : O → List ℕ → O → Type 0) → (old : O) → Option (List ℕ) → (new : O) → Type 0
LosesText loses old None new = ⊥
LosesText loses old (Some text) new = loses old text new

-- A file with this text was replaced, if files are.
abbrev pub HandlesFile : Task → (name source text : List ℕ) → (old new : Files) → Type 0
HandlesFile Format name source text old new = Replaces old new name text × IfSome (old name) (λ b. source ≡ b)
HandlesFile FormatAndName name source text old new = Replaces old new name text × IfSome (old name) (λ b. source ≡ b)
HandlesFile Check name source text old new = KeepsFiles old new
HandlesFile Diff name source text old new = KeepsFiles old new

abbrev pub ReplaceResult : Task → (name source text : List ℕ) → (old new : Files) → Result (Unit {0}) Failure → Type 0
ReplaceResult task name source text old new (Ok is) = HandlesFile task name source text old new
ReplaceResult task name source text old new (Err failure) = (failure_status failure ≡ Some 3) × KeepsFiles old new

module _ {O : Type 0} (writes loses : O → List ℕ → O → Type 0) (task : Task) where
  -- what a result means for the files and the output: that they are as they were, if it is no failure of writing the report
  abbrev pub AppliesResult : (name source text : List ℕ) (old new : Files) (output_old output_new : O) → Result Bool Failure → Type 0
  AppliesResult name source text old new a b (Ok is) =
      (is ≡ changes_files task) × ((report : Option (List ℕ)) × HasReport task name source text (report_in report)
      × HandlesFile task name source text old new × Takes writes loses a (report_in report) b)
  AppliesResult name source text old new a b (Err (failures.Writing error)) =
      (report : List ℕ) × IsReport task name source text report × HandlesFile task name source text old new × loses a report b
  AppliesResult name source text old new a b (Err failure) = (failure_status failure ≡ Some 3) × KeepsFiles old new × (b ≡ a)

module _ (formats : List ℕ → List ℕ → Type 0) (rejects : List ℕ → List ℕ → List ℕ → Type 0) (task : Task)
    {O : Type 0} (writes loses : O → List ℕ → O → Type 0) where
  -- What became of a file. Only it has other bytes, if it was changed. Its report was written, unless that failed.
  pub record IsDone (name : List ℕ) (old new : Files) (output_old output_new : O) (outcome : Outcome) : Type 0 where
    pub is : HasOutcome formats rejects task name (old name) (new name) outcome
    pub files : ChangesFiles formats task (changed_name name outcome) old new
    pub reported : Takes writes loses output_old (report_of outcome) output_new

  -- Whatever tells the failure: it is what became of the file.
  abbrev pub HasResult : (name : List ℕ) (old new : Files) (output_old output_new : O) → Result Bool Failure → Type 0
  HasResult name old new a b result = (messages : List (List ℕ)) → TellResult name result messages
      → (outcome : Outcome) × IsDone name old new a b outcome × (messages_of outcome ≡ messages) × (reported_status outcome ≡ result_status result)

  -- What became of a file, and its status, unless writing its report failed. What there is to tell was told, and nothing else.
  pub record HasStatus {E : Type 0} (tells : E → List ℕ → E → Type 0) (name : List ℕ) (old new : Files) (output_old output_new : O) (errors_old errors_new : E)
      (status : Option ℕ) : Type 0 where
    pub outcome : Outcome
    pub done : IsDone name old new output_old output_new outcome
    pub status_is : status ≡ reported_status outcome
    pub told : FoldsTo tells errors_old (messages_of outcome) errors_new
