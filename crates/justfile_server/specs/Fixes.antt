-- How what is wrong with a justfile is set right.
use Rattle.std.specs.Prelude.{◌≡◌, ℕ, Bool, true, false, List, [], ◌∷◌, filter, length, nat_lt, IsPermutation, codes}
use Rattle.std.specs.List.{AllZip, flat_map}
use Rattle.std.specs.List.Sorted.{IsNonDecreasingBy}
use Rattle.justfile_ast.specs.declared.ast.Ast.{Ast}
use Rattle.justfile_canonical.specs.Root.{IsRoot}
use Rattle.justfile_problems.specs.declared.problem.Problem as found
use Rattle.justfile_facts.specs.Definitions.{item_definitions}
use Rattle.justfile_facts.specs.Uses.{item_uses}
use Rattle.justfile_lint.specs.Lint.{problems_of}
use Rattle.justfile_lint.specs.Names.{may_be_imported}
use Rattle.justfile_findings.specs.Fixes.{AreFixes}
use Rattle.justfile_analysis.specs.Parts.{IsNone}
use Rattle.editor_language.specs.declared.parts.Problem.{Problem}
use Rattle.editor_language.specs.declared.parts.QuickFix.{QuickFix}
use Rattle.justfile_server.specs.Findings.{limit}
use Rattle.justfile_server.specs.Signs.{Corrects, is_sign}

-- The first problems of a file are set right, as far as they can be; `imported` is whether another file may import it.
pub record AreFixesOf (imported : Bool) (ast : Ast) (fixes : List QuickFix) : Type 0 where
  pub problems : List found.Problem
  pub all : IsPermutation (problems_of imported ast) problems
  pub in_order : IsNonDecreasingBy (λ (p : found.Problem). p.token.offset) problems
  pub are : AreFixes (flat_map item_definitions ast.items.items) (flat_map item_uses ast.items.items) problems fixes

-- those of the tree of a text, which is that of the document with an address, or none if it has no tree
pub data AreFixesIn (uri text : List ℕ) (fixes : List QuickFix) : Type 0 where
  of_tree : (ast : Ast) → IsRoot (codes "justfile") text ast → AreFixesOf (may_be_imported uri) ast fixes → AreFixesIn uri text fixes
  of_none : IsNone text → fixes ≡ [] → AreFixesIn uri text fixes

-- none of a text that is too long
abbrev pub AreShortFixes : (uri text : List ℕ) → (is_long : Bool) → List QuickFix → Type 0
AreShortFixes uri text false fixes = AreFixesIn uri text fixes
AreShortFixes uri text true fixes = fixes ≡ []

-- If there are problems, the signs among them are set right. Nothing else that can be set right is told then: that depends on what is wrong.
abbrev pub AreFixesFor : (uri text : List ℕ) → List Problem → List QuickFix → Type 0
AreFixesFor uri text [] fixes = AreShortFixes uri text (nat_lt limit (length text)) fixes
AreFixesFor uri text (problem ∷ others) fixes = AllZip Corrects (filter (is_sign text) (problem ∷ others)) fixes
