-- What is known of a text.
use Rattle.std.specs.Prelude.{◌≡◌, ℕ, ◌+◌, Bool, true, false, List, [], ◌∷◌}
use Rattle.text_parts.specs.Parts.{AreParts, before}
use Rattle.text_parts.specs.declared.part.Part.{Part}
use Rattle.justfile_ast.specs.Ast.{features_of, tree_of}
use Rattle.justfile_ast.specs.declared.ast.Ast.{Ast}
use Rattle.justfile_canonical.specs.Root.{conditions}
use Rattle.editor_language.specs.declared.parts.Analysis.{Analysis}
use Rattle.editor_language.specs.declared.parts.Known.{Known}
use Rattle.justfile_analysis.specs.InText.{AreTold}
use Rattle.justfile_analysis.specs.Parts.{IsPartOf, IsRight}
use Rattle.justfile_analysis.specs.RightParts.{IsJoined, Read, chunks_of}

-- The text is cut into these parts, and its problems are those of the parts that are wrong.
pub record Knows (text : List ℕ) (a : Analysis) : Type 0 where
  pub are_parts : AreParts IsPartOf true text a.parts.items
  pub problems_are : AreTold a.parts.items a.problems.items

-- what a part was read as, by its file
abbrev pub read_as : Ast → Part Known → Read
read_as ast p = record { tree = tree_of ast; features = features_of ast; size = p.size }

abbrev pub all_read_as : List Ast → List (Part Known) → List Read
all_read_as (ast ∷ asts) (p ∷ parts) = read_as ast p ∷ all_read_as asts parts
all_read_as _ _ = []

-- The parts are right, each with the file of its text. That of a later part begins with the line feed before it.
abbrev pub AreOfFiles : (is_first : Bool) → List Ast → List (Part Known) → Type 0
AreOfFiles is_first [] [] = Unit {0}
AreOfFiles is_first (ast ∷ asts) (p ∷ parts) = IsRight (before is_first + p.size) ast p.known × AreOfFiles false asts parts
AreOfFiles is_first _ _ = ⊥

-- The text derives a tree: those of the files of its parts, joined, each with its places moved to where it is in the text.
pub record IsJustfile (text : List ℕ) (parts : List (Part Known)) : Type 0 where
  pub asts : List Ast
  pub are_of : AreOfFiles true asts parts
  pub is_joined : IsJoined conditions text (all_read_as asts parts) (chunks_of text (all_read_as asts parts))

-- Without problems the text is a justfile, and the items are those of its tree.
abbrev pub RightLaw : Type 0
RightLaw = (text : List ℕ) (a : Analysis) → Knows text a → a.problems.items ≡ [] → IsJustfile text a.parts.items
