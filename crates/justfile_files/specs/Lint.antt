-- What is told of files in which something may be wrong.
use Rattle.std.specs.Prelude.{◌≡◌, ◌⊎◌, ℕ, All, List, [], ◌∷◌, map, Option, IfSome}
use Rattle.std.specs.List.{AllZip, FoldsTo, flat_map}
use Rattle.justfile_files.specs.Failure.{IsMessage}
use Rattle.justfile_files.specs.Folder.{Files, KeepsFiles}
use Rattle.justfile_files.specs.Found.{LeadTo}
use Rattle.justfile_files.specs.Outcome.{greatest}
use Rattle.justfile_files.specs.Run.{FindsNone}
use Rattle.justfile_files.specs.Sources.{AreRead, Source}

-- what a run tells of a file
pub data Judgement : Type 0 where
  -- the lines that tell all that is wrong with it, none if nothing is, were written
  judged : (lines : List ℕ) → Judgement
  -- writing them failed, as the messages tell, if there are any
  lost : (lines : List ℕ) (messages : List (List ℕ)) → Judgement
  -- its text can't be judged, as the lines tell
  rejected : (lines : List ℕ) → Judgement
  -- none of these is known, as the message tells
  failed : (message : List ℕ) → Judgement

-- the status of a file whose lines were written
abbrev pub lines_status : List ℕ → ℕ
lines_status [] = 0
lines_status (byte ∷ bytes) = 1

abbrev pub status_of : Judgement → ℕ
status_of (judged lines) = lines_status lines
status_of (lost lines messages) = 3
status_of (rejected lines) = 2
status_of (failed message) = 3

abbrev pub messages_of : Judgement → List (List ℕ)
messages_of (judged lines) = []
messages_of (lost lines messages) = messages
messages_of (rejected lines) = lines ∷ []
messages_of (failed message) = message ∷ []

-- what lines may tell of the file with a name
abbrev pub Judge : Type 1
Judge = (files : Files) (name lines : List ℕ) → Type 0

module _ {O : Type 0} (writes loses : O → List ℕ → O → Type 0) where
  -- The lines were written, or that failed, or there were none to write.
  abbrev pub Leaves : O → Judgement → O → Type 0
  Leaves old (judged lines) new = writes old lines new
  Leaves old (lost lines messages) new = loses old lines new
  Leaves old (rejected lines) new = new ≡ old
  Leaves old (failed message) new = new ≡ old

  -- what was told of the lines of a file with this name
  pub record IsWritten {E : Type 0} (tells : E → List ℕ → E → Type 0) (name lines : List ℕ) (output_old output_new : O) (errors_old errors_new : E) (status : ℕ) : Type 0 where
    pub judgement : Judgement
    pub is : (judgement ≡ judged lines) ⊎ ((messages : List (List ℕ)) × (judgement ≡ lost lines messages) × All (IsMessage name) messages)
    pub status_is : status ≡ status_of judgement
    pub left : Leaves output_old judgement output_new
    pub told : FoldsTo tells errors_old (messages_of judgement) errors_new

-- the files that the one with a name leads to were read, and this holds of them
pub record OfRead (leads : (path source : List ℕ) → List (List ℕ) → Type 0) (files : Files) (name : List ℕ) (P : List Source → Type 0) : Type 0 where
  pub read : List Source
  pub are : AreRead leads files name read
  pub holds : P read

-- what a linter finds wrong with the file that has a name, and those that it leads to
abbrev pub Finds : (leads : (path source : List ℕ) → List (List ℕ) → Type 0) (finds : List Source → (missing : List (List ℕ)) → (lines : List ℕ) → Type 0) → Judge
Finds leads finds files name lines = OfRead leads files name (λ read. (missing : List (List ℕ)) × finds read missing lines)

-- why they can't be judged
abbrev pub Rejects : (leads : (path source : List ℕ) → List (List ℕ) → Type 0) (rejects : List Source → (lines : List ℕ) → Type 0) → Judge
Rejects leads rejects files name lines = OfRead leads files name (λ read. rejects read lines)

module _ (finds rejects : Judge) (files : Files) where
  -- what is told of the file with this name is true
  abbrev pub IsTrueOf : (name : List ℕ) → Judgement → Type 0
  IsTrueOf name (judged lines) = finds files name lines
  IsTrueOf name (lost lines messages) = finds files name lines × All (IsMessage name) messages
  IsTrueOf name (rejected lines) = rejects files name lines
  IsTrueOf name (failed message) = IsMessage name message

  module _ {O E : Type 0} (writes loses : O → List ℕ → O → Type 0) (tells : E → List ℕ → E → Type 0) where
    -- What is true of the file was told, and nothing else.
    pub record IsJudged (name : List ℕ) (output_old output_new : O) (errors_old errors_new : E) (status : ℕ) : Type 0 where
      pub judgement : Judgement
      pub is_true : IsTrueOf name judgement
      pub status_is : status ≡ status_of judgement
      pub left : Leaves writes loses output_old judgement output_new
      pub told : FoldsTo tells errors_old (messages_of judgement) errors_new

    -- What is true of each of the files was told, in their order, and nothing else. The status is the greatest of theirs.
    pub record AreJudged (names : List (List ℕ)) (output_old output_new : O) (errors_old errors_new : E) (status : ℕ) : Type 0 where
      pub judgements : List Judgement
      pub each : AllZip IsTrueOf names judgements
      pub status_is : status ≡ greatest (map status_of judgements)
      pub left : FoldsTo (Leaves writes loses) output_old judgements output_new
      pub told : FoldsTo tells errors_old (flat_map messages_of judgements) errors_new

module _ (finds rejects : Judge) {D : Type 0} (contents : D → Files) (lists : D → List ℕ → Option (List (List ℕ)) → Type 0)
    {O E : Type 0} (writes loses : O → List ℕ → O → Type 0) (tells : E → List ℕ → E → Type 0) where
  -- Each of the files that the names lead to was judged, and no file was changed.
  pub record JudgesAll (names : List (List ℕ)) (old new : D) (output_old output_new : O) (errors_old errors_new : E) (status : ℕ) : Type 0 where
    pub found : List (List ℕ)
    pub lead : LeadTo lists old names found
    pub kept : KeepsFiles (contents old) (contents new)
    pub judged_all : AreJudged finds rejects (contents old) writes loses tells found output_old output_new errors_old errors_new status

  abbrev pub LintsFiles : (names : List (List ℕ)) (old new : D) (output_old output_new : O) (errors_old errors_new : E) (status : ℕ) → Type 0
  LintsFiles names old new a b e f status = JudgesAll names old new a b e f status ⊎ FindsNone tells old new a b e f status
