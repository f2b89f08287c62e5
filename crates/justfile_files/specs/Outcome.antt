-- What becomes of files.
use Rattle.std.specs.Prelude.{◌≡◌, ◌≢◌, ◌⊎◌, ℕ, max, true, false, All, Contains, List, [], ◌∷◌, ◌++◌, map, codes, Option, IfSome, Some}
use Rattle.std.specs.List.{AllZip, FoldsTo, flat_map}
use Rattle.line_diff.specs.Unified.{IsUnified}
use Rattle.justfile_files.specs.Failure.{IsMessage}
use Rattle.justfile_files.specs.Folder.{Files}
use Rattle.justfile_files.specs.Request.{changes_files}
use Rattle.justfile_files.specs.Visible.{visible_name}
use Rattle.justfile_files.specs.declared.request.Task.{Task}
use Rattle.justfile_files.specs.declared.request.Task.TheVariants.{Check, Diff, Format, FormatAndName}

-- what becomes of the report of a file
pub data Report : Type 0 where
  -- there is none
  none : Report
  -- it was written
  written : (text : List ℕ) → Report
  -- writing it failed, as the messages tell, if there are any
  lost : (text : List ℕ) (messages : List (List ℕ)) → Report

-- what becomes of a file
pub data Outcome : Type 0 where
  -- it is formatted
  formatted : Outcome
  -- it wasn't formatted before, and is now
  changed : (report : Report) → Outcome
  -- it isn't formatted
  differs : (report : Report) → Outcome
  -- it can't be formatted, as the lines tell
  rejected : (lines : List ℕ) → Outcome
  -- none of these is known, as the message tells
  failed : (message : List ℕ) → Outcome

abbrev pub report_of : Outcome → Report
report_of formatted = none
report_of (changed report) = report
report_of (differs report) = report
report_of (rejected lines) = none
report_of (failed message) = none

abbrev pub lost_messages : Report → List (List ℕ)
lost_messages none = []
lost_messages (written text) = []
lost_messages (lost text messages) = messages

-- what is told of a file
abbrev pub messages_of : Outcome → List (List ℕ)
messages_of formatted = []
messages_of (changed report) = lost_messages report
messages_of (differs report) = lost_messages report
messages_of (rejected lines) = lines ∷ []
messages_of (failed message) = message ∷ []

-- the status of a file: 3 if writing its report failed, and otherwise the one that is given
abbrev pub with_report : Report → (status : ℕ) → ℕ
with_report none status = status
with_report (written text) status = status
with_report (lost text messages) status = 3

abbrev pub status_of : Outcome → ℕ
status_of formatted = 0
status_of (changed report) = with_report report 0
status_of (differs report) = with_report report 1
status_of (rejected lines) = 2
status_of (failed message) = 3

-- Writing the report failed.
abbrev pub IsLost : Report → Type 0
IsLost none = ⊥
IsLost (written text) = ⊥
IsLost (lost text messages) = Unit {0}

-- The report was written, if there is one.
abbrev pub IsReported : Outcome → Type 0
IsReported outcome = IsLost (report_of outcome) → ⊥

-- All reports were written and no name is left, or writing the last report failed.
abbrev pub Ends : List Outcome → (rest : List (List ℕ)) → Type 0
Ends outcomes rest =
    (All IsReported outcomes × (rest ≡ []))
    ⊎ ((before : List Outcome) × (last : Outcome) × (outcomes ≡ before ++ last ∷ []) × All IsReported before × IsLost (report_of last))

-- the name of a file that was changed
abbrev pub changed_name : (name : List ℕ) → Outcome → List (List ℕ)
changed_name name formatted = []
changed_name name (changed report) = name ∷ []
changed_name name (differs report) = []
changed_name name (rejected lines) = []
changed_name name (failed message) = []

-- the names of those of the files that were changed
abbrev pub changed_names : (names : List (List ℕ)) → List Outcome → List (List ℕ)
changed_names [] outcomes = []
changed_names (name ∷ names) [] = []
changed_names (name ∷ names) (outcome ∷ outcomes) = changed_name name outcome ++ changed_names names outcomes

abbrev pub greatest : List ℕ → ℕ
greatest [] = 0
greatest (status ∷ statuses) = max status (greatest statuses)

-- the report of a file that isn't formatted, or wasn't: its name on a line, or a diff that leads to its formatted text
abbrev pub IsReport : Task → (name source text report : List ℕ) → Type 0
IsReport Format name source text report = ⊥
IsReport FormatAndName name source text report = report ≡ visible_name name ++ codes "\n"
IsReport Check name source text report = report ≡ visible_name name ++ codes "\n"
IsReport Diff name source text report = IsUnified name source text report

-- There is a report of it, unless files are formatted without their names.
abbrev pub HasReport : Task → (name source text : List ℕ) → Report → Type 0
HasReport task name source text none = task ≡ Format
HasReport task name source text (written report) = IsReport task name source text report
HasReport task name source text (lost report messages) = IsReport task name source text report × All (IsMessage name) messages

module _ {O : Type 0} (writes loses : O → List ℕ → O → Type 0) where
  -- The report was written, or that failed, or there was nothing to write.
  abbrev pub Takes : O → Report → O → Type 0
  Takes old none new = new ≡ old
  Takes old (written text) new = writes old text new
  Takes old (lost text messages) new = loses old text new

module _ (formats : List ℕ → List ℕ → Type 0) (task : Task) (names : List (List ℕ)) where
  -- A file's bytes become the formatted text of those that it had. Its name is given, or that of a file that had the same bytes, which it
  -- may be.
  pub record BecomesFormatted (files : Files) (old new : Option (List ℕ)) : Type 0 where
    pub changes : changes_files task ≡ true
    pub source : List ℕ
    pub text : List ℕ
    pub was : old ≡ Some source
    pub is : new ≡ Some text
    pub formatted : formats source text
    pub named : List ℕ
    pub is_given : Contains names named
    pub had : files named ≡ Some source

  -- Files whose names are given become formatted. All others are as they were.
  abbrev pub ChangesFiles : Files → Files → Type 0
  ChangesFiles old new = (name : List ℕ) → (new name ≡ old name) ⊎ BecomesFormatted old (old name) (new name)

module _ (formats : List ℕ → List ℕ → Type 0) (rejects : List ℕ → List ℕ → List ℕ → Type 0) (task : Task) where
  -- The text isn't formatted, and that has this report.
  pub record IsUnformatted (name source text : List ℕ) (report : Report) : Type 0 where
    pub formatted : formats source text
    pub differs : text ≢ source
    pub reported : HasReport task name source text report

  -- what the outcome means for the file with this name, of the bytes that it had and has, as far as they are known
  abbrev pub HasOutcome : (name : List ℕ) (old new : Option (List ℕ)) → Outcome → Type 0
  HasOutcome name old new formatted = (source : List ℕ) × IfSome new (λ b. source ≡ b) × formats source source
  HasOutcome name old new (changed report) =
      (source : List ℕ) × (text : List ℕ) × IfSome old (λ b. source ≡ b) × IfSome new (λ b. text ≡ b)
      × IsUnformatted name source text report × (changes_files task ≡ true)
  HasOutcome name old new (differs report) =
      (source : List ℕ) × (text : List ℕ) × IfSome new (λ b. source ≡ b) × IsUnformatted name source text report × (changes_files task ≡ false)
  HasOutcome name old new (rejected lines) = (source : List ℕ) × IfSome new (λ b. source ≡ b) × rejects (visible_name name) source lines
  HasOutcome name old new (failed message) = IsMessage name message

  module _ {O E : Type 0} (writes loses : O → List ℕ → O → Type 0) (tells : E → List ℕ → E → Type 0) where
    -- What became of each of the files, in their order, up to the first one whose report was lost. Only files that were changed have other
    -- bytes, and names that held the same; so the rest is as it was. The status is the greatest of theirs. Each report was written, or writing
    -- it failed, and nothing else was. What there is to tell was told, and nothing else.
    pub record HasOutcomes (names : List (List ℕ)) (old new : Files) (output_old output_new : O) (errors_old errors_new : E) (status : ℕ) : Type 0 where
      pub outcomes : List Outcome
      pub seen : List (List ℕ)
      pub rest : List (List ℕ)
      pub names_are : names ≡ seen ++ rest
      pub each : AllZip (λ name outcome. HasOutcome name (old name) (new name) outcome) seen outcomes
      pub ends : Ends outcomes rest
      pub files : ChangesFiles formats task (changed_names seen outcomes) old new
      pub status_is : status ≡ greatest (map status_of outcomes)
      pub reported : FoldsTo (Takes writes loses) output_old (map report_of outcomes) output_new
      pub told : FoldsTo tells errors_old (flat_map messages_of outcomes) errors_new
