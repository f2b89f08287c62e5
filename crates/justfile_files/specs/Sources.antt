-- The files that a file leads to.
use Rattle.std.specs.Prelude.{◌≡◌, ℕ, Bool, false, List, [], ◌∷◌, ◌++◌, map, Option, IfSome, String, string_bytes}
use Rattle.std.specs.Global.{Global}
use Rattle.std.specs.List.{Contains, list_any}
use Rattle.std.specs.Str.{bytes_eq}
use Rattle.justfile_files.specs.Folder.{Files}
use Rattle.justfile_files.specs.Path.{plain_path}
use Rattle.justfile_files.specs.Visible.{visible_name}
use Rattle.justfile_files.specs.declared.sources.Found.{Found}
use Rattle.justfile_files.specs.declared.sources.Found.TheVariants.{Nothing, Text, Unknown}
use Rattle.justfile_files.specs.declared.sources.SourceFile.{SourceFile}

-- a file: its name in messages, its path, by which others name it, and its text
pub record Source : Type 0 where
  pub name : List ℕ
  pub path : List ℕ
  pub text : List ℕ

abbrev pub source_of : SourceFile → Source
source_of file = record { name = string_bytes file.name; path = string_bytes file.path; text = string_bytes file.text }

abbrev pub sources : List SourceFile → List Source
sources files = map source_of files

abbrev pub is_text : (text : List ℕ) → String Global → Bool
is_text text other = bytes_eq (string_bytes other) text

abbrev pub is_at : (path : List ℕ) → SourceFile → Bool
is_at path file = bytes_eq (string_bytes file.path) path

-- whether one of the files has a path
abbrev pub has_path : List Source → (path : List ℕ) → Bool
has_path files path = list_any (λ (s : Source). bytes_eq s.path path) files

-- a text that was found is that of the file, if its bytes are known
abbrev pub HasText : (known : Option (List ℕ)) → Found → Type 0
HasText known (Text text) = IfSome known (λ bytes. string_bytes text ≡ bytes)
HasText known Nothing = Unit {0}
HasText known Unknown = Unit {0}

-- the file with this name
pub record IsRootOf (files : Files) (name : List ℕ) (s : Source) : Type 0 where
  pub shown : s.name ≡ visible_name name
  pub at : s.path ≡ plain_path name
  pub text : IfSome (files name) (λ bytes. s.text ≡ bytes)

module _ (leads : (path source : List ℕ) → List (List ℕ) → Type 0) where
  -- one of the files names a path
  pub record IsNamed (files : List Source) (path : List ℕ) : Type 0 where
    pub by : Source
    pub is_file : Contains files by
    pub paths : List (List ℕ)
    pub names : leads by.path by.text paths
    pub is_path : Contains paths path

  module _ (files : Files) where
    -- a file that one of those before it names, and is none of them
    pub record IsNext (before : List Source) (s : Source) : Type 0 where
      pub named : IsNamed before s.path
      pub new : has_path before s.path ≡ false
      pub shown : s.name ≡ visible_name s.path
      pub text : IfSome (files s.path) (λ bytes. s.text ≡ bytes)

    -- the others were read after these files, one after the other
    abbrev pub Follow : (before others : List Source) → Type 0
    Follow before [] = Unit {0}
    Follow before (s ∷ others) = IsNext before s × Follow (before ++ s ∷ []) others

    pub record Extends (before after : List Source) : Type 0 where
      pub others : List Source
      pub are : after ≡ before ++ others
      pub follow : Follow before others

    -- the file with this name, and others that it leads to
    pub record AreRead (name : List ℕ) (read : List Source) : Type 0 where
      pub root : Source
      pub is_root : IsRootOf files name root
      pub others : Extends (root ∷ []) read
