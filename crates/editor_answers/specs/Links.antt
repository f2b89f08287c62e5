-- The links of a document.
use Rattle.std.specs.Prelude.{◌≡◌, ◌++◌, ℕ, List, [], ◌∷◌, Option, None, Some, if◌then◌else◌, ◌==◌, codes, map, slice_index, string_bytes}
use Rattle.std.specs.Path.{slash}
use Rattle.std.specs.Str.{IsUtf8, NoCharPasses}
use Rattle.percent_encoding.specs.Percent.{percent_decode, percent_encode}
use Rattle.justfile_lines.specs.declared.encoding.Encoding.{Encoding}
use Rattle.text_edits.specs.declared.edit.Range.{Range}
use Rattle.editor_messages.specs.declared.answer.Answer.{Answer}
use Rattle.editor_messages.specs.declared.answer.Answer.TheVariants as answers
use Rattle.editor_messages.specs.declared.answer.Link.{Link}
use Rattle.editor_language.specs.declared.parts.Analysis.{Analysis}
use Rattle.editor_language.specs.declared.parts.FileLink.{FileLink}
use Rattle.editor_answers.specs.declared.addresses.TheConstants.{ESCAPED}
use Rattle.editor_answers.specs.Ranges.{range_of}

-- the text has no slash
abbrev pub HasNoSlash : List ℕ → Type 0
HasNoSlash text = NoCharPasses (λ c. c == slash) text

-- the address of the folder of the document with an address: what is before its last slash, or nothing if it has none
pub data IsFolderOf (uri folder : List ℕ) : Type 0 where
  before : (name : List ℕ) → uri ≡ folder ++ slash ∷ name → HasNoSlash name → IsFolderOf uri folder
  nowhere : HasNoSlash uri → folder ≡ [] → IsFolderOf uri folder

-- the path of a folder is absolute, without a slash at its end: that of the root is empty
abbrev pub IsRooted : List ℕ → Type 0
IsRooted [] = Unit {0}
IsRooted (c ∷ path) = c ≡ slash

-- the path that the address of a folder has, encoded, or none if it is no folder's with files
abbrev pub IsEncodedPath : (folder : List ℕ) → Option (List ℕ) → Type 0
IsEncodedPath folder None = (encoded : List ℕ) → folder ≡ codes "file://" ++ encoded → IsRooted encoded → ⊥
IsEncodedPath folder (Some encoded) = (folder ≡ codes "file://" ++ encoded) × IsRooted encoded

-- the path that the address of a folder stands for
pub record IsFolderPath (folder path : List ℕ) : Type 0 where
  pub encoded : List ℕ
  pub is_file : folder ≡ codes "file://" ++ encoded
  pub rooted : IsRooted encoded
  pub is_decoded : path ≡ percent_decode encoded
  pub utf8 : IsUtf8 path

-- the path that the address of a folder stands for, or none if it stands for none
abbrev pub IsPathOfFolder : (folder : List ℕ) → Option (List ℕ) → Type 0
IsPathOfFolder folder None = (path : List ℕ) → IsFolderPath folder path → ⊥
IsPathOfFolder folder (Some path) = IsFolderPath folder path

-- the address of the file at a path that is seen from the folder with an address
abbrev pub address : (folder path : List ℕ) → List ℕ
address folder path = if slice_index path 0 == slash then codes "file://" ++ percent_encode ESCAPED path else folder ++ slash ∷ percent_encode ESCAPED path

-- where a link is and the address that it leads to, and what these are to be for a link to a file
abbrev pub Pointed : Type 0
Pointed = Range × List ℕ

abbrev pub pointed : Link → Pointed
pointed l = (l.range, string_bytes l.target)

abbrev pub to_point : Encoding → (text folder : List ℕ) → FileLink → Pointed
to_point encoding text folder l = (range_of encoding text l.span, address folder (string_bytes l.path))

-- the answer has these links
abbrev pub AnswersLinks : List Pointed → Answer → Type 0
AnswersLinks links (answers.Links found) = map pointed found.items ≡ links
AnswersLinks links other = ⊥

-- The answer has exactly the links to files that a language has for a text. Their paths are seen from the document's folder, which the language knows if it is one of files.
pub record LinksIn (linked : Option (List ℕ) → List ℕ → Analysis → List FileLink → Type 0) (encoding : Encoding) (uri text : List ℕ) (analysis : Analysis) (answer : Answer) : Type 0 where
  pub folder : List ℕ
  pub is_folder : IsFolderOf uri folder
  pub path : Option (List ℕ)
  pub is_path : IsPathOfFolder folder path
  pub links : List FileLink
  pub are_links : linked path text analysis links
  pub is : AnswersLinks (map (to_point encoding text folder) links) answer
