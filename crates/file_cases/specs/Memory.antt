-- What a folder in memory holds.
use Rattle.std.specs.Prelude.{◌≡◌, ◌≢◌, ◌<◌, ℕ, List, [], ◌∷◌, length, get_or, Option, None, Some, if◌then◌else◌}
use Rattle.std.specs.Str.{bytes_eq}
use Rattle.file_cases.specs.declared.folder.MemoryFile.{MemoryFile}
use Rattle.file_cases.specs.declared.folder.MemoryFolder.{MemoryFolder}

-- the bytes of the first file with a name
abbrev pub bytes_in : List MemoryFile → (name : List ℕ) → Option (List ℕ)
bytes_in [] name = None
bytes_in (file ∷ files) name = if bytes_eq file.name.now name then Some file.bytes.items else bytes_in files name

abbrev pub contents_of : MemoryFolder → (name : List ℕ) → Option (List ℕ)
contents_of folder name = bytes_in folder.files.items name

-- The first file with this name is at this index.
pub record IsIndex (files : List MemoryFile) (name : List ℕ) (index : ℕ) : Type 0 where
  pub within : index < length files
  pub named : (d : MemoryFile) → (get_or files index d).name.now ≡ name
  pub first : (k : ℕ) → k < index → (d : MemoryFile) → (get_or files k d).name.now ≢ name
