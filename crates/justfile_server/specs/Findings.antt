-- What is wrong with what a justfile says.
use Rattle.std.specs.Prelude.{◌≡◌, ℕ, Bool, true, false, List, [], ◌∷◌, length, nat_lt, IsPermutation, codes}
use Rattle.std.specs.List.{flat_map}
use Rattle.std.specs.Str.{IsUtf8}
use Rattle.std.specs.List.Sorted.{IsNonDecreasingBy}
use Rattle.justfile_ast.specs.declared.ast.Ast.{Ast}
use Rattle.justfile_canonical.specs.Root.{IsRoot}
use Rattle.justfile_problems.specs.declared.circular.Circle.{Circle}
use Rattle.justfile_problems.specs.declared.problem.Problem as found
use Rattle.justfile_facts.specs.Definitions.{item_definitions}
use Rattle.justfile_facts.specs.Uses.{item_uses}
use Rattle.justfile_lint.specs.Lint.{AreCirclesIn, problems_of}
use Rattle.justfile_lint.specs.Names.{may_be_imported}
use Rattle.justfile_findings.specs.Findings.{AreFindings}
use Rattle.text_parts.specs.declared.part.Part.{Part}
use Rattle.justfile_analysis.specs.Parts.{IsNone}
use Rattle.editor_language.specs.declared.parts.Analysis.{Analysis}
use Rattle.editor_language.specs.declared.parts.Finding.{Finding}
use Rattle.editor_language.specs.declared.parts.Known.{Known}
use Rattle.editor_language.specs.declared.parts.Problem.{Problem}
use Rattle.justfile_server.specs.Blanks.{without_wrong}

-- Exactly the problems and the first circles of a file are told, in the order of the text; `imported` is whether another file may import it.
pub record AreFindingsOf (imported : Bool) (ast : Ast) (findings : List Finding) : Type 0 where
  pub problems : List found.Problem
  pub all : IsPermutation (problems_of imported ast) problems
  pub in_order : IsNonDecreasingBy (λ (p : found.Problem). p.token.offset) problems
  pub circles : List Circle
  pub are : AreCirclesIn ast circles
  pub told : AreFindings (flat_map item_definitions ast.items.items) (flat_map item_uses ast.items.items) problems circles findings

-- those of the tree of a text, or none if it has no tree
pub data AreInText (imported : Bool) (text : List ℕ) (findings : List Finding) : Type 0 where
  of_tree : (ast : Ast) → IsRoot (codes "justfile") text ast → AreFindingsOf imported ast findings → AreInText imported text findings
  of_none : IsNone text → findings ≡ [] → AreInText imported text findings

-- Beside what is wrong in a text those of the rest are told. Names that it lacks may be in what is wrong, as in a file that another one imports.
pub data AreBeside (rest : List ℕ) (findings : List Finding) : Type 0 where
  of_rest : AreInText true rest findings → AreBeside rest findings
  not_utf8 : (IsUtf8 rest → ⊥) → findings ≡ [] → AreBeside rest findings

-- the most bytes that are looked at
abbrev pub limit : ℕ
limit = 131072

-- Those in the text of the document with an address, by its parts and the problems in it.
abbrev pub AreBy : (uri text : List ℕ) → List (Part Known) → List Problem → List Finding → Type 0
AreBy uri text parts [] findings = AreInText (may_be_imported uri) text findings
AreBy uri text parts (problem ∷ others) findings = AreBeside (without_wrong 0 parts text) findings

-- none are told of a text that is too long
abbrev pub AreInShort : (is_long : Bool) → (uri text : List ℕ) → Analysis → List Finding → Type 0
AreInShort false uri text known findings = AreBy uri text known.parts.items known.problems.items findings
AreInShort true uri text known findings = findings ≡ []

-- these are the findings in the text of the document with an address, of which this is known
abbrev pub AreFound : (uri text : List ℕ) → Analysis → List Finding → Type 0
AreFound uri text known findings = AreInShort (nat_lt limit (length text)) uri text known findings
