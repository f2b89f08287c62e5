-- How a file is set right.
use Rattle.std.proofs.Common.{◌≡◌, ◌∙◌, ℕ, Bool, List, [], ◌∷◌, Result, Ok, Err, IfOk, codes, filter, subst, sym}
use Rattle.std.specs.Global.{Vec}
use Rattle.std.specs.List.{AllZip, flat_map}
use Rattle.justfile_ast.specs.declared.ast.Ast.{Ast}
use Rattle.justfile_problems.specs.declared.facts.Definition.{Definition}
use Rattle.justfile_problems.specs.declared.facts.Use.{Use}
use Rattle.justfile_problems.specs.declared.problem.Problem.{Problem}
use Rattle.justfile_facts.specs.Uses.{item_uses}
use Rattle.justfile_lint.specs.Lint.{AreFindingsOf as AreLinted}
use Rattle.justfile_canonical.specs.Root.{IsRoot}
use Rattle.justfile_lint.specs.Names.{may_be_imported}
use Rattle.justfile_lint.specs.declared.file.Findings.{Findings}
use Rattle.justfile_findings.specs.Fixes.{AreFixes}
use Rattle.editor_language.specs.declared.parts.Problem.{Problem as Wrong}
use Rattle.editor_language.specs.declared.parts.QuickFix.{QuickFix}
use Rattle.justfile_analysis.specs.Parts.{IsNone}
use Rattle.justfile_server.specs.Fixes.{AreFixesFor, AreFixesIn, AreFixesOf, of_none, of_tree}
use Rattle.justfile_server.specs.Signs.{Corrects, is_sign}

-- how what was found is set right
pub of_file : {E : Type 0} (imported : Bool) (ast : Ast) (linted : Findings) (ps : List Problem) (ds : List Definition) (us : List Use) (r : Result (Vec QuickFix) E)
    → AreLinted imported ast linted → ps ≡ linted.problems.items → ds ≡ linted.facts.definitions.items → us ≡ linted.facts.uses.items
    → IfOk r (λ found. AreFixes ds us ps found.items) → IfOk r (λ found. AreFixesOf imported ast found.items)
of_file imported ast linted ps ds us (Err e) are ps_are ds_are us_are fixed = tt
of_file imported ast linted ps ds us (Ok found) are ps_are ds_are us_are fixed = record {
  problems = linted.problems.items;
  all = are.all;
  in_order = are.in_order;
  are =
      subst (λ (it : List Definition). AreFixes it (flat_map item_uses ast.items.items) linted.problems.items found.items) (ds_are ∙ are.facts.definitions)
      (subst (λ (it : List Use). AreFixes ds it linted.problems.items found.items) (us_are ∙ are.facts.uses)
      (subst (λ (it : List Problem). AreFixes ds us it found.items) ps_are fixed));
}

-- how a text with a tree is set right, and one without
pub with_tree : (uri text : List ℕ) (imported : Bool) (found : List QuickFix) → imported ≡ may_be_imported uri → (ast : Ast) × IsRoot (codes "justfile") text ast × AreFixesOf imported ast found
    → AreFixesIn uri text found
with_tree uri text imported found e h = of_tree h.0 h.1 (subst (λ (b : Bool). AreFixesOf b h.0 found) e h.2)

pub without_tree : {E : Type 0} (r : Result (Vec QuickFix) E) (uri text : List ℕ) → IsNone text → IfOk r (λ found. found.items ≡ []) → IfOk r (λ found. AreFixesIn uri text found.items)
without_tree (Ok found) uri text none h = of_none none h
without_tree (Err e) uri text none h = tt

-- how the signs among problems are set right
pub by_signs : {E : Type 0} (r : Result (Vec QuickFix) E) (uri text bytes : List ℕ) (problems others : List Wrong) (first : Wrong) → bytes ≡ text → problems ≡ first ∷ others
    → IfOk r (λ found. AllZip Corrects (filter (is_sign bytes) problems) found.items) → IfOk r (λ found. AreFixesFor uri text problems found.items)
by_signs (Ok found) uri text bytes problems others first same some h =
    subst (λ ps. AreFixesFor uri text ps found.items) (sym some)
    (subst (λ t. AllZip Corrects (filter (is_sign t) (first ∷ others)) found.items) same (subst (λ ps. AllZip Corrects (filter (is_sign bytes) ps) found.items) some h))
by_signs (Err e) uri text bytes problems others first same some h = tt
