-- What a run over names does.
use Rattle.std.specs.Prelude.{◌≡◌, ◌⊎◌, ℕ, List, Option, codes}
use Rattle.justfile_files.specs.Folder.{Files}
use Rattle.justfile_files.specs.Found.{LeadTo}
use Rattle.justfile_files.specs.Outcome.{ChangesFiles, HasOutcomes}
use Rattle.justfile_files.specs.declared.request.Task.{Task}

module _ {D O E : Type 0} (tells : E → List ℕ → E → Type 0) where
  -- There was no memory to find the files. Nothing was done but telling that.
  pub record FindsNone (old new : D) (output_old output_new : O) (errors_old errors_new : E) (status : ℕ) : Type 0 where
    pub status_is : status ≡ 3
    pub folder : new ≡ old
    pub output : output_new ≡ output_old
    pub told : tells errors_old (codes "error: out of memory\n") errors_new

module _ (formats : List ℕ → List ℕ → Type 0) (rejects : List ℕ → List ℕ → List ℕ → Type 0) (task : Task) {D : Type 0} (contents : D → Files)
    (lists : D → List ℕ → Option (List (List ℕ)) → Type 0) {O E : Type 0} (writes loses : O → List ℕ → O → Type 0) (tells : E → List ℕ → E → Type 0) where
  -- The task was done with each of the files that the names lead to, and no other file was changed.
  pub record DoesTask (names : List (List ℕ)) (old new : D) (output_old output_new : O) (errors_old errors_new : E) (status : ℕ) : Type 0 where
    pub found : List (List ℕ)
    pub lead : LeadTo lists old names found
    pub files : ChangesFiles formats task found (contents old) (contents new)
    pub outcomes : HasOutcomes formats rejects task writes loses tells found (contents old) (contents new) output_old output_new errors_old errors_new status

  abbrev pub HasRun : (names : List (List ℕ)) (old new : D) (output_old output_new : O) (errors_old errors_new : E) (status : ℕ) → Type 0
  HasRun names old new a b e f status = DoesTask names old new a b e f status ⊎ FindsNone tells old new a b e f status
