-- What a folder holds, by the names of its files, and how that changes.
use Rattle.std.specs.Prelude.{◌≡◌, ◌⊎◌, ℕ, List, Option, IfSome, Some}

-- the bytes of each file of which they are known
abbrev pub Files : Type 0
Files = List ℕ → Option (List ℕ)

abbrev pub KeepsFiles : Files → Files → Type 0
KeepsFiles old new = (name : List ℕ) → new name ≡ old name

-- A file has the text instead of its bytes. So can a file that had the same bytes, as its name may be another name of the same file. All
-- others are as they were.
pub record Replaces (old new : Files) (name text : List ℕ) : Type 0 where
  pub replaced : IfSome (old name) (λ bytes. new name ≡ Some text)
  pub others : (other : List ℕ)
      → (new other ≡ old other) ⊎ ((bytes : List ℕ) × (old name ≡ Some bytes) × (old other ≡ Some bytes) × (new other ≡ Some text))
